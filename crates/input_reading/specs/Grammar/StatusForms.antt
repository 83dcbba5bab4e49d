-- The forms of the lines of a status: the words of a line, and what they say (Pacemaker Explained, operation history; the lines are a rule of this
-- project).
use Rattle.std.specs.Prelude.{◌≡◌, ℕ, ℤ, Bool, true, List, [], ◌∷◌, codes, Some}
use Rattle.score.specs.ScoreText.{read_score}
use Rattle.cluster_types.specs.declared.cluster.Cluster.{Cluster}
use Rattle.cluster_types.specs.declared.journal.Action.{Action}
use Rattle.cluster_types.specs.declared.journal.Action.TheVariants.{Probe, Operation}
use Rattle.cluster_types.specs.declared.journal.Event.TheVariants.{Cleanup, Ended}
use Rattle.cluster_types.specs.declared.journal.Outcome.{Outcome}
use Rattle.cluster_types.specs.declared.journal.Outcome.TheVariants.{Code, TimedOut}
use Rattle.cluster_types.specs.declared.leaf.Op.TheVariants.{Start, Stop, Promote, Demote}
use Rattle.cluster_types.specs.declared.leaf.Role.TheVariants.{Started}
use Rattle.cluster_types.specs.AnswersThatApply.{monitor_action}
use Rattle.cluster_types.specs.Fields.{is_promotable}
use Rattle.input_reading.specs.declared.status.line_meaning.NodeWord.{NodeWord}
use Rattle.input_reading.specs.declared.status.line_meaning.NodeWord.TheVariants.{Online, Offline, Unclean}
use Rattle.input_reading.specs.declared.status.line_meaning.Fact.{Fact}
use Rattle.input_reading.specs.declared.status.line_meaning.Fact.TheVariants.{Now, Quorum, Node, Past, Promoting}
use Rattle.input_reading.specs.Grammar.WordValues.{NamesLeaf, NamesNode, SaysWhether, WritesCode, WritesNumber, WritesPositive, WritesSeconds}

-- the state of a node
pub data SaysState : List ℕ → NodeWord → Type 0 where
  says_online : SaysState (codes "online") Online
  says_offline : SaysState (codes "offline") Offline
  says_unclean : SaysState (codes "unclean") Unclean

-- the milliseconds of what doesn't recur
abbrev pub WritesZero : List ℕ → Type 0
WritesZero word = WritesNumber 0 0 word 0

-- the name and the milliseconds of an operation say which action of the cell ended; a monitor of 0 milliseconds is a probe. Only a promotable leaf is
-- promoted and demoted
pub data ActionEnded (c : Cluster) (leaf node : ℕ) : List ℕ → List ℕ → Action → Type 0 where
  a_start : (ms : List ℕ) → WritesZero ms → ActionEnded c leaf node (codes "start") ms (Operation Start leaf node 0 Started)
  a_stop : (ms : List ℕ) → WritesZero ms → ActionEnded c leaf node (codes "stop") ms (Operation Stop leaf node 0 Started)
  a_promote : (ms : List ℕ) → is_promotable c leaf ≡ true → WritesZero ms → ActionEnded c leaf node (codes "promote") ms (Operation Promote leaf node 0 Started)
  a_demote : (ms : List ℕ) → is_promotable c leaf ≡ true → WritesZero ms → ActionEnded c leaf node (codes "demote") ms (Operation Demote leaf node 0 Started)
  a_probe : (ms : List ℕ) → WritesZero ms → ActionEnded c leaf node (codes "monitor") ms (Probe leaf node)
  a_monitor : (ms : List ℕ) (interval : ℕ) → WritesPositive ms interval → ActionEnded c leaf node (codes "monitor") ms (monitor_action c leaf node interval)

-- an exit code, or that the operation was killed after its time
pub data SaysOutcome : List ℕ → Outcome → Type 0 where
  was_killed : SaysOutcome (codes "timeout") TimedOut
  exited : (word : List ℕ) (code : ℕ) → WritesCode word code → SaysOutcome word (Code code)

-- what the words of a line of a status say of a cluster
pub data StatusSays (c : Cluster) : List (List ℕ) → Fact → Type 0 where
  now_form : (number : List ℕ) (seconds : ℕ) → WritesSeconds number seconds → StatusSays c (codes "now" ∷ number ∷ []) (Now seconds)
  quorum_form : (word : List ℕ) (quorate : Bool) → SaysWhether word quorate → StatusSays c (codes "quorum" ∷ word ∷ []) (Quorum quorate)
  node_form : (name word : List ℕ) (node : ℕ) (state : NodeWord) → NamesNode c name node → SaysState word state
      → StatusSays c (codes "node" ∷ name ∷ word ∷ []) (Node node state)
  op_form : (name leaf_name op ms code number : List ℕ) (node leaf : ℕ) (action : Action) (outcome : Outcome) (moment : ℕ)
      → NamesNode c name node → NamesLeaf c leaf_name leaf → ActionEnded c leaf node op ms action → SaysOutcome code outcome → WritesSeconds number moment
      → StatusSays c (codes "op" ∷ name ∷ leaf_name ∷ op ∷ ms ∷ code ∷ number ∷ []) (Past (Ended 0 action outcome moment))
  cleanup_form : (name leaf_name : List ℕ) (node leaf : ℕ) → NamesNode c name node → NamesLeaf c leaf_name leaf
      → StatusSays c (codes "cleanup" ∷ name ∷ leaf_name ∷ []) (Past (Cleanup leaf node))
  promotion_form : (name leaf_name word : List ℕ) (node leaf : ℕ) (score : ℤ) → NamesNode c name node → NamesLeaf c leaf_name leaf
      → is_promotable c leaf ≡ true → read_score word ≡ Some score
      → StatusSays c (codes "promotion" ∷ name ∷ leaf_name ∷ word ∷ []) (Promoting (record { leaf = leaf; node = node; score = score }))
