-- What an executor keeps of a transition that goes on, and what it does by itself (rule of this project).
use Rattle.std.specs.Prelude.{◌≡◌, ◌<◌, ◌≤◌, ◌+◌, ◌*◌, ◌-◌, ℕ, true, false, not, List, ◌++◌, length, map, filter, count_by}
use Rattle.cluster_types.specs.declared.journal.Action.{Action}
use Rattle.cluster_types.specs.declared.journal.Answer.{Answer}
use Rattle.cluster_types.specs.declared.journal.Answer.TheVariants as answer
use Rattle.cluster_types.specs.declared.journal.Event.{Event}
use Rattle.cluster_types.specs.AnswersThatApply.{end_event, most_from_outside}
use Rattle.cluster_types.specs.declared.journal.Outcome.TheVariants.{Code, Gone}
use Rattle.cluster_types.specs.Journals.{is_on}
use Rattle.cluster_types.specs.Steps as steps
use Rattle.cluster_types.specs.Steps.{EndsSilently, ended, silent_code, has_begun, has_number_ended, has_succeeded, is_number_in_flight, in_flight_by_number}
use Rattle.listed.specs.Sets.{is_member}
use Rattle.graph_exec.specs.Flights.{InFlightOf}
use Rattle.graph_exec.specs.KnownJournals.{KnownJournalOf}
use Rattle.graph_exec.specs.Inner.Logs.{LogOf}
use Rattle.graph_exec.specs.Executors.{ExecutorOf, transition_in, later}

-- a transition, as it is kept
abbrev pub running : LogOf → InFlightOf → ExecutorOf
running log f = record {
  cluster = log.cluster;
  graph = f.progress.graph;
  planned_at = log.planned_at;
  since = log.since;
  promotions = log.promotions;
}

-- its journal now, with its cluster and the promotion scores
abbrev pub running_journal : ExecutorOf → KnownJournalOf
running_journal r = record { cluster = r.cluster; events = r.planned_at ++ r.since; promotions = r.promotions }

-- what the loss of a node ends: each action in flight of a cell on it, in the order of their numbers
abbrev pub all_gone : ExecutorOf → ℕ → List Event
all_gone r n =
    map (end_event r.cluster (r.planned_at ++ r.since) (in_flight_by_number (transition_in r) r.since) Gone) (filter (λ (p : ℕ × Action). is_on n p.1) (in_flight_by_number (transition_in r) r.since))

-- nothing more is said, and of the actions in flight that of lowest number ends, as if this had been answered
pub record EndedSilently (old new : ExecutorOf) (given : Answer) : Type 0 where
  pub number : ℕ
  pub action : Action
  pub ends : EndsSilently (transition_in old) old.since number action
  pub goes_on : new ≡ later old (ended (transition_in old) old.since number (Code (silent_code action)))
  pub given_is : given ≡ answer.End number (silent_code action)

-- what is kept of one number is what the events say of it
pub record IsNumberKept (log : LogOf) (f : InFlightOf) (k : ℕ) : Type 0 where
  pub begun : is_member f.progress.begun k ≡ has_begun (transition_in (running log f)) log.since k
  pub succeeded : is_member f.progress.succeeded k ≡ has_succeeded (transition_in (running log f)) log.since k
  pub in_flight : is_member f.in_flight k ≡ is_number_in_flight (transition_in (running log f)) log.since k
  pub ended : has_number_ended (transition_in (running log f)) log.since k ≡ true → has_begun (transition_in (running log f)) log.since k ≡ true
  pub over : has_succeeded (transition_in (running log f)) log.since k ≡ true → has_number_ended (transition_in (running log f)) log.since k ≡ true

-- how many events may come at most: two of each action that hasn't begun, one of each in flight, and the answers from outside that may still be taken
abbrev pub events_to_come : LogOf → InFlightOf → ℕ
events_to_come log f =
    2 * count_by not f.progress.begun + count_by (λ b. b) f.in_flight + (most_from_outside - count_by steps.is_from_outside log.since)

-- what is kept of the actions is what the events say of each number, none has begun as number 0, and there is room for all events that may come
pub record InFlightFollows (log : LogOf) (f : InFlightOf) : Type 0 where
  pub begun_size : length f.progress.begun ≡ length f.progress.graph.actions
  pub succeeded_size : length f.progress.succeeded ≡ length f.progress.graph.actions
  pub flight_size : length f.in_flight ≡ length f.progress.graph.actions
  pub each : (k : ℕ) → 0 < k → k ≤ length f.progress.graph.actions → IsNumberKept log f k
  pub from_one : has_begun (transition_in (running log f)) log.since 0 ≡ false
  pub has_room : events_to_come log f ≤ log.room
