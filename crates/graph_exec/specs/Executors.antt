-- A transition that goes on (rule of this project).
use Rattle.std.specs.Prelude.{◌≡◌, ℕ, Bool, true, false, Option, None, List, [], ◌∷◌, ◌++◌}
use Rattle.cluster_types.specs.declared.cluster.Cluster.{Cluster}
use Rattle.cluster_types.specs.declared.journal.Action.{Action}
use Rattle.cluster_types.specs.declared.journal.Answer.{Answer}
use Rattle.cluster_types.specs.declared.journal.Event.{Event}
use Rattle.cluster_types.specs.declared.journal.Event.TheVariants.{Begin}
use Rattle.cluster_types.specs.declared.journal.Promotion.{Promotion}
use Rattle.cluster_types.specs.AnswersThatApply.{applies_after}
use Rattle.cluster_types.specs.Graphs.{GraphOf, IsGraph}
use Rattle.cluster_types.specs.Plans.{transition_on}
use Rattle.cluster_types.specs.Steps.{Transition, GoesBySteps, Begins, TakesAnswer, is_settled, count_from_outside, answer_events, in_flight_by_number}
use Rattle.graph_exec.specs.KnownJournals.{KnownJournalOf}

-- the cluster, the graph that is carried out, the journal when it was planned with the promotion scores of the status, and the events since
pub record ExecutorOf : Type 0 where
  pub cluster : Cluster
  pub graph : GraphOf
  pub planned_at : List Event
  pub since : List Event
  pub promotions : List Promotion

-- the transition
abbrev pub transition_in : ExecutorOf → Transition
transition_in r = transition_on r.cluster r.graph r.planned_at

-- nothing of the graph has begun, for this journal
abbrev pub fresh_on : KnownJournalOf → GraphOf → ExecutorOf
fresh_on j g = record { cluster = j.cluster; graph = g; planned_at = j.events; since = []; promotions = j.promotions }

-- the same, some events later
abbrev pub later : ExecutorOf → List Event → ExecutorOf
later r events = record { cluster = r.cluster; graph = r.graph; planned_at = r.planned_at; since = r.since ++ events; promotions = r.promotions }

-- what holds at every moment: the edges make a graph, and the events since the plan are steps of the transition, whatever answers there were
pub record IsUnderWay (r : ExecutorOf) : Type 0 where
  pub graph : IsGraph r.graph
  pub steps : GoesBySteps (transition_in r) true [] None r.since None

-- it went on by steps, which took some of the answers to come, from the first on, or none, and left the others, and nothing else of it changed
pub record Went (whole : Bool) (old new : ExecutorOf) (rest left : Option (List Answer)) : Type 0 where
  pub same : new ≡ record { cluster = old.cluster; graph = old.graph; planned_at = old.planned_at; since = new.since; promotions = old.promotions }
  pub steps : GoesBySteps (transition_in old) whole old.since rest new.since left

-- an action begins: of those that may, the one of lowest number
pub record BeginsNow (old new : ExecutorOf) (k : ℕ) : Type 0 where
  pub action : Action
  pub begins : Begins (transition_in old) old.since k action
  pub goes_on : new ≡ later old (Begin k action ∷ [])

-- none may begin, and nothing changes
pub record StaysSettled (old new : ExecutorOf) : Type 0 where
  pub settled : is_settled (transition_in old) old.since ≡ true
  pub same : new ≡ old

-- an answer is taken
pub record Took (old new : ExecutorOf) (given : Answer) : Type 0 where
  pub takes : TakesAnswer (transition_in old) old.since given
  pub goes_on : new ≡ later old (answer_events (transition_in old) old.since given)

-- the answer doesn't apply, and nothing changes
pub record IsAnswerRefused (old new : ExecutorOf) (given : Answer) : Type 0 where
  pub refused : applies_after old.cluster (old.planned_at ++ old.since) (in_flight_by_number (transition_in old) old.since) (count_from_outside (transition_in old) old.since) given ≡ false
  pub same : new ≡ old
