-- The forms of the lines of a run: the words of a line, and what they say (rule of this project).
use Rattle.std.specs.Prelude.{◌≡◌, ℕ, true, List, [], ◌∷◌, codes}
use Rattle.crm_lex.specs.Names.{is_name}
use Rattle.cluster_types.specs.declared.cluster.Cluster.{Cluster}
use Rattle.cluster_types.specs.declared.journal.Action.{Action}
use Rattle.cluster_types.specs.declared.journal.Action.TheVariants.{Fence, Probe, Operation, MigrateTo, MigrateFrom}
use Rattle.cluster_types.specs.declared.journal.Answer.{Answer}
use Rattle.cluster_types.specs.declared.leaf.Op.{Op}
use Rattle.cluster_types.specs.declared.leaf.Op.TheVariants.{Start, Stop, Promote, Demote}
use Rattle.cluster_types.specs.declared.leaf.Role.TheVariants as role
use Rattle.cluster_types.specs.declared.placement.NoReason.{NoReason}
use Rattle.cluster_types.specs.declared.placement.NoReason.TheVariants.{NoCopies, Stopped, OnFail, StopAll, NoQuorum, NoNode, Held}
use Rattle.cluster_types.specs.declared.placement.Pin.{Pin}
use Rattle.cluster_types.specs.declared.placement.Pin.TheVariants.{Unmanaged, Blocked}
use Rattle.cluster_types.specs.declared.placement.Target.{Target}
use Rattle.cluster_types.specs.declared.placement.Target.TheVariants as target
use Rattle.cluster_types.specs.declared.run.RunLine.{RunLine}
use Rattle.cluster_types.specs.declared.run.RunLine.TheVariants as line
use Rattle.cluster_types.specs.AnswersThatApply.{monitor_action}
use Rattle.input_reading.specs.Grammar.ResultForms.{ResultSays}
use Rattle.input_reading.specs.Grammar.WordValues.{NamesLeaf, NamesNode, WritesPositive}

-- why a leaf is left as it is
pub data SaysPin : List ℕ → Pin → Type 0 where
  is_unmanaged : SaysPin (codes "unmanaged") Unmanaged
  is_blocked : SaysPin (codes "blocked") Blocked

-- what a leaf is to be on a node
pub data SaysTarget : List ℕ → Target → Type 0 where
  to_be_started : SaysTarget (codes "started") target.Started
  to_be_promoted : SaysTarget (codes "promoted") target.Promoted

-- why a leaf has no target; a leaf that is held back names the rule
pub data SaysReason : List (List ℕ) → NoReason → Type 0 where
  for_no_copies : SaysReason (codes "NoCopies" ∷ []) NoCopies
  for_stopped : SaysReason (codes "Stopped" ∷ []) Stopped
  for_on_fail : SaysReason (codes "OnFail" ∷ []) OnFail
  for_stop_all : SaysReason (codes "StopAll" ∷ []) StopAll
  for_no_quorum : SaysReason (codes "NoQuorum" ∷ []) NoQuorum
  for_no_node : SaysReason (codes "NoNode" ∷ []) NoNode
  for_a_rule : (rule : List ℕ) → is_name rule ≡ true → SaysReason (codes "Held" ∷ rule ∷ []) (Held rule)

-- an operation other than a monitor
pub data SaysOperation : List ℕ → Op → Type 0 where
  to_start : SaysOperation (codes "start") Start
  to_stop : SaysOperation (codes "stop") Stop
  to_promote : SaysOperation (codes "promote") Promote
  to_demote : SaysOperation (codes "demote") Demote

-- an action of a cluster
pub data ActionSays (c : Cluster) : List (List ℕ) → Action → Type 0 where
  fence_form : (name : List ℕ) (node : ℕ) → NamesNode c name node → ActionSays c (codes "fence" ∷ name ∷ []) (Fence node)
  probe_form : (leaf_name name : List ℕ) (leaf node : ℕ) → NamesLeaf c leaf_name leaf → NamesNode c name node
      → ActionSays c (codes "probe" ∷ leaf_name ∷ name ∷ []) (Probe leaf node)
  operation_form : (word leaf_name name : List ℕ) (op : Op) (leaf node : ℕ) → SaysOperation word op → NamesLeaf c leaf_name leaf → NamesNode c name node
      → ActionSays c (word ∷ leaf_name ∷ name ∷ []) (Operation op leaf node 0 role.Started)
  monitor_form : (leaf_name name number : List ℕ) (leaf node interval : ℕ) → NamesLeaf c leaf_name leaf → NamesNode c name node → WritesPositive number interval
      → ActionSays c (codes "monitor" ∷ leaf_name ∷ name ∷ number ∷ []) (monitor_action c leaf node interval)
  migrate_to_form : (leaf_name from to : List ℕ) (leaf source destination : ℕ) → NamesLeaf c leaf_name leaf → NamesNode c from source → NamesNode c to destination
      → ActionSays c (codes "migrate_to" ∷ leaf_name ∷ from ∷ to ∷ []) (MigrateTo leaf source destination)
  migrate_from_form : (leaf_name from to : List ℕ) (leaf source destination : ℕ) → NamesLeaf c leaf_name leaf → NamesNode c from source → NamesNode c to destination
      → ActionSays c (codes "migrate_from" ∷ leaf_name ∷ from ∷ to ∷ []) (MigrateFrom leaf source destination)

-- what the words of a line of a run say of a cluster. An answer is said as by a result line at the moment 0: the waits of a run
-- aren't added up
pub data RunSays (c : Cluster) : List (List ℕ) → RunLine → Type 0 where
  transition_form : (number : List ℕ) (k : ℕ) → WritesPositive number k → RunSays c (codes "transition" ∷ number ∷ []) (line.Transition k)
  pinned_form : (leaf_name word : List ℕ) (leaf : ℕ) (pin : Pin) → NamesLeaf c leaf_name leaf → SaysPin word pin
      → RunSays c (codes "pinned" ∷ leaf_name ∷ word ∷ []) (line.Pinned leaf pin)
  target_form : (leaf_name name word : List ℕ) (leaf node : ℕ) (goal : Target) → NamesLeaf c leaf_name leaf → NamesNode c name node → SaysTarget word goal
      → RunSays c (codes "target" ∷ leaf_name ∷ name ∷ word ∷ []) (line.Goal leaf node goal)
  none_form : (leaf_name : List ℕ) (words : List (List ℕ)) (leaf : ℕ) (reason : NoReason) → NamesLeaf c leaf_name leaf → SaysReason words reason
      → RunSays c (codes "none" ∷ leaf_name ∷ words) (line.Lacking leaf reason)
  begin_form : (number : List ℕ) (words : List (List ℕ)) (k : ℕ) (action : Action) → WritesPositive number k → ActionSays c words action
      → RunSays c (codes "begin" ∷ number ∷ words) (line.Begin k action)
  complete_form : (number : List ℕ) (k : ℕ) → WritesPositive number k → RunSays c (codes "complete" ∷ number ∷ []) (line.Complete k)
  aborted_form : (number : List ℕ) (k : ℕ) → WritesPositive number k → RunSays c (codes "aborted" ∷ number ∷ []) (line.Aborted k)
  unexpected_form : (number : List ℕ) (at : ℕ) → WritesPositive number at → RunSays c (codes "unexpected" ∷ number ∷ []) (line.Unexpected at)
  answer_form : (words : List (List ℕ)) (given : Answer) → ResultSays c 0 words given → RunSays c words (line.Taken given)
