-- The printed lines of scores, graphs and runs (rule of this project).
use Rattle.std.specs.Prelude.{◌≡◌, ℕ, zero, ◌+◌, ◌-◌, ◌*◌, ◌≤◌, Bool, true, false, ℤ, Option, Some, None, unwrap_or, List, [], ◌∷◌, ◌++◌, length, take, drop, filter, slice_get, codes, decimal}
use Rattle.std.specs.List.{flat_map, range_with_len, enumerate_from}
use Rattle.std.specs.Option.{option_map_or}
use Rattle.score.specs.ScoreText.{score_text}
use Rattle.cluster_types.specs.declared.cluster.Cluster.{Cluster}
use Rattle.cluster_types.specs.declared.journal.Action.{Action}
use Rattle.cluster_types.specs.declared.journal.Action.TheVariants.{Fence, Probe, Operation, MigrateTo, MigrateFrom}
use Rattle.cluster_types.specs.declared.journal.Answer.{Answer}
use Rattle.cluster_types.specs.declared.journal.Answer.TheVariants as answer
use Rattle.cluster_types.specs.declared.journal.Event.{Event}
use Rattle.cluster_types.specs.declared.journal.Event.TheVariants.{Up, Lost, Quorum, Wait, Begin, Ended}
use Rattle.cluster_types.specs.declared.journal.Outcome.TheVariants.{Code, TimedOut}
use Rattle.cluster_types.specs.declared.leaf.Op.{Op}
use Rattle.cluster_types.specs.declared.leaf.Op.TheVariants.{Start, Stop, Promote, Demote, Monitor}
use Rattle.cluster_types.specs.declared.node.Node.{Node}
use Rattle.cluster_types.specs.declared.placement.Decided.{Decided}
use Rattle.cluster_types.specs.declared.placement.Decision.{Decision}
use Rattle.cluster_types.specs.declared.placement.Decision.TheVariants.{Place, Promote as PromoteLeaf}
use Rattle.cluster_types.specs.declared.placement.NoReason.{NoReason}
use Rattle.cluster_types.specs.declared.placement.NoReason.TheVariants as none
use Rattle.cluster_types.specs.declared.placement.Pin.{Pin}
use Rattle.cluster_types.specs.declared.placement.Pin.TheVariants.{Unmanaged, Blocked}
use Rattle.cluster_types.specs.declared.placement.Placed.{Placed}
use Rattle.cluster_types.specs.declared.placement.Target.{Target}
use Rattle.cluster_types.specs.declared.placement.Target.TheVariants as target
use Rattle.cluster_types.specs.declared.run.Passed.{Passed}
use Rattle.cluster_types.specs.declared.run.PassedEnd.{PassedEnd}
use Rattle.cluster_types.specs.declared.run.PassedEnd.TheVariants.{Complete, Aborted, Cut}
use Rattle.cluster_types.specs.declared.run.Run.{Run}
use Rattle.cluster_types.specs.declared.run.RunLine.{RunLine}
use Rattle.cluster_types.specs.declared.run.RunLine.TheVariants as line
use Rattle.cluster_types.specs.Decisions.{leaf_of}
use Rattle.cluster_types.specs.Fields.{leaf_name}
use Rattle.cluster_types.specs.Pins.{leaf_pin}
use Rattle.cluster_types.specs.Reasons.{leaf_reason}
use Rattle.cluster_types.specs.Tables.{targets_of}

abbrev pub node_name : Cluster → ℕ → List ℕ
node_name c n = option_map_or (λ (node : Node). node.name) (slice_get c.nodes n) []

abbrev pub op_word : Op → List ℕ
op_word Start = codes "start "
op_word Stop = codes "stop "
op_word Promote = codes "promote "
op_word Demote = codes "demote "
op_word Monitor = codes "monitor "

-- what an event of a transition, or one that comes between two, prints: a begin, an end, or the answer that it came from. What is gone with its node
-- has no line, since the node's loss has one. An end of number 0, with a code of a monitor, is a report
abbrev pub event_lines : Event → List RunLine
event_lines (Begin k a) = line.Begin k a ∷ []
event_lines (Ended zero (Operation Monitor r n interval role) (Code code) moment) = line.Taken (answer.Report n r interval code) ∷ []
event_lines (Ended k a (Code code) moment) = line.Taken (answer.End k code) ∷ []
event_lines (Ended k a TimedOut moment) = line.Taken (answer.Timeout k) ∷ []
event_lines (Lost n) = line.Taken (answer.Lost n) ∷ []
event_lines (Up n) = line.Taken (answer.Up n) ∷ []
event_lines (Quorum now) = line.Taken (answer.Quorum now) ∷ []
event_lines (Wait seconds) = line.Taken (answer.Wait seconds) ∷ []
event_lines _ = []

-- the events at the positions from one up to another, without it
abbrev pub between : ℕ → ℕ → List Event → List Event
between from to es = take (to - from) (drop from es)

module _ (c : Cluster) where
  abbrev pub leaf_on : ℕ → ℕ → List ℕ
  leaf_on r n = leaf_name c r ++ codes " " ++ node_name c n

  -- an action, as `start LEAF NODE`. A monitor has its interval in milliseconds behind it
  abbrev pub action_text : Action → List ℕ
  action_text (Fence n) = codes "fence " ++ node_name c n
  action_text (Probe r n) = codes "probe " ++ leaf_on r n
  action_text (Operation Monitor r n interval role) = codes "monitor " ++ leaf_on r n ++ codes " " ++ decimal interval
  action_text (Operation op r n interval role) = op_word op ++ leaf_on r n
  action_text (MigrateTo r source target) = codes "migrate_to " ++ leaf_on r source ++ codes " " ++ node_name c target
  action_text (MigrateFrom r source target) = codes "migrate_from " ++ leaf_on r source ++ codes " " ++ node_name c target

  -- an answer, as a result line says it
  abbrev pub answer_text : Answer → List ℕ
  answer_text (answer.End k code) = codes "end " ++ decimal k ++ codes " " ++ decimal code
  answer_text (answer.Timeout k) = codes "timeout " ++ decimal k
  answer_text (answer.Lost n) = codes "lost " ++ node_name c n
  answer_text (answer.Up n) = codes "up " ++ node_name c n
  answer_text (answer.Quorum true) = codes "quorum yes"
  answer_text (answer.Quorum false) = codes "quorum no"
  answer_text (answer.Wait seconds) = codes "wait " ++ decimal seconds
  answer_text (answer.Report n r interval code) =
      codes "report " ++ node_name c n ++ codes " " ++ leaf_name c r ++ codes " " ++ decimal interval ++ codes " " ++ decimal code

  abbrev pub reason_text : NoReason → List ℕ
  reason_text none.NoCopies = codes "NoCopies"
  reason_text none.Stopped = codes "Stopped"
  reason_text none.OnFail = codes "OnFail"
  reason_text none.StopAll = codes "StopAll"
  reason_text none.NoQuorum = codes "NoQuorum"
  reason_text none.NoNode = codes "NoNode"
  reason_text (none.Held id) = codes "Held " ++ id

  abbrev pub pin_text : Pin → List ℕ
  pin_text Unmanaged = codes "unmanaged"
  pin_text Blocked = codes "blocked"

  abbrev pub target_text : Target → List ℕ
  target_text target.Nowhere = codes "nowhere"
  target_text target.Started = codes "started"
  target_text target.Promoted = codes "promoted"

  -- a line of a run
  abbrev pub run_line : RunLine → List ℕ
  run_line (line.Transition k) = codes "transition " ++ decimal k ++ codes "\n"
  run_line (line.Pinned r pin) = codes "pinned " ++ leaf_name c r ++ codes " " ++ pin_text pin ++ codes "\n"
  run_line (line.Goal r n goal) = codes "target " ++ leaf_on r n ++ codes " " ++ target_text goal ++ codes "\n"
  run_line (line.Lacking r reason) = codes "none " ++ leaf_name c r ++ codes " " ++ reason_text reason ++ codes "\n"
  run_line (line.Begin k a) = codes "begin " ++ decimal k ++ codes " " ++ action_text a ++ codes "\n"
  run_line (line.Taken given) = answer_text given ++ codes "\n"
  run_line (line.Complete k) = codes "complete " ++ decimal k ++ codes "\n"
  run_line (line.Aborted k) = codes "aborted " ++ decimal k ++ codes "\n"
  run_line (line.Unexpected l) = codes "unexpected " ++ decimal l ++ codes "\n"

  -- why a leaf is left as it is
  abbrev pub pin_lines : ℕ → Option Pin → List RunLine
  pin_lines r (Some pin) = line.Pinned r pin ∷ []
  pin_lines r None = []

  abbrev pub goal_lines : ℕ → ℕ → Target → List RunLine
  goal_lines r n target.Nowhere = []
  goal_lines r n goal = line.Goal r n goal ∷ []

  abbrev pub lacking_lines : ℕ → Option NoReason → List RunLine
  lacking_lines r (Some reason) = line.Lacking r reason ∷ []
  lacking_lines r None = []

  -- the target lines of a leaf: why it is left as it is, its targets in node order, and why it has none
  abbrev pub leaf_lines : List (Option Pin) → (ℕ → ℕ → Target) → List (Option NoReason) → ℕ → List RunLine
  leaf_lines pins targets reasons r =
      pin_lines r (leaf_pin pins r)
      ++ flat_map (λ n. goal_lines r n (targets r n)) (range_with_len 0 (length c.nodes))
      ++ lacking_lines r (leaf_reason reasons r)

  -- the target lines of all leaves, in their order
  abbrev pub target_lines : List (Option Pin) → (ℕ → ℕ → Target) → List (Option NoReason) → List RunLine
  target_lines pins targets reasons = flat_map (leaf_lines pins targets reasons) (range_with_len 0 (length c.leaves))

  -- how a transition ended, if it did
  abbrev pub end_lines : ℕ → PassedEnd → List RunLine
  end_lines k Complete = line.Complete k ∷ []
  end_lines k Aborted = line.Aborted k ∷ []
  end_lines k Cut = []

  -- the lines of a transition in a run that is kept: its targets, what happened, and how it ended
  abbrev pub passed_lines : List Event → ℕ → Passed → List RunLine
  passed_lines es k passed =
      line.Transition k ∷ target_lines passed.pins (targets_of passed.table) passed.none
      ++ flat_map event_lines (between passed.begins_at passed.ends_at es) ++ end_lines k passed.end

  -- what is kept of a transition fits the cluster and the journal: an entry for each leaf, a target for each cell, and positions of the journal
  pub record PassedFits (es : List Event) (passed : Passed) : Type 0 where
    pub pins : length passed.pins ≡ length c.leaves
    pub reasons : length passed.none ≡ length c.leaves
    pub nodes : passed.table.nodes ≡ length c.nodes
    pub cells : length passed.table.targets ≡ length c.leaves * length c.nodes
    pub ascending : passed.begins_at ≤ passed.ends_at
    pub within : passed.ends_at ≤ length es

  -- where the first of some transitions begins, or the end of the journal
  abbrev pub begin_of : List Event → List Passed → ℕ
  begin_of es [] = length es
  begin_of es (passed ∷ more) = passed.begins_at

  -- each transition, from number k on, and what came between it and the next
  abbrev pub all_passed_lines : List Event → ℕ → List Passed → List RunLine
  all_passed_lines es k [] = []
  all_passed_lines es k (passed ∷ more) =
      passed_lines es k passed ++ flat_map event_lines (between passed.ends_at (begin_of es more) es) ++ all_passed_lines es (k + 1) more

  -- the lines of a run that is kept, and its text
  abbrev pub run_lines : Run → List RunLine
  run_lines run = all_passed_lines run.journal.events 1 run.passed

  abbrev pub run_text : Run → List ℕ
  run_text run = flat_map run_line (run_lines run)

  abbrev pub decision_line : Decision → List ℕ
  decision_line (Place r) = codes "place " ++ leaf_name c r ++ codes "\n"
  decision_line (PromoteLeaf r) = codes "promote " ++ leaf_name c r ++ codes "\n"

  abbrev pub score_line : ℕ → ℕ × ℤ → List ℕ
  score_line r total = codes "score " ++ leaf_on r total.0 ++ codes " " ++ score_text total.1 ++ codes "\n"

  -- a decision, and its total on each node
  abbrev pub decided_lines : Decided → List ℕ
  decided_lines d = decision_line d.decision ++ flat_map (score_line (leaf_of d.decision)) (enumerate_from 0 d.totals)

  -- the text of scores: each decision in the order in which it was made, and then the target lines
  abbrev pub scores_text : Placed → List ℕ
  scores_text placed = flat_map decided_lines placed.decided ++ flat_map run_line (target_lines placed.pins (targets_of placed.table) placed.none)

  -- the numbers that must have succeeded before, ascending
  abbrev pub after_text : List ℕ → List ℕ
  after_text [] = []
  after_text (k ∷ ks) = codes " after" ++ flat_map (λ j. codes " " ++ decimal j) (k ∷ ks)

  -- a line of a graph: an action with its number, and what must precede it
  abbrev pub graph_line : (ℕ → ℕ → Bool) → ℕ → ℕ × Action → List ℕ
  graph_line precedes count numbered =
      codes "action " ++ decimal numbered.0 ++ codes " " ++ action_text numbered.1
      ++ after_text (filter (λ k. precedes k numbered.0) (range_with_len 1 count)) ++ codes "\n"

  -- the text of a graph: its actions in number order
  abbrev pub graph_text : List Action → (ℕ → ℕ → Bool) → List ℕ
  graph_text actions precedes = flat_map (graph_line precedes (length actions)) (enumerate_from 1 actions)
