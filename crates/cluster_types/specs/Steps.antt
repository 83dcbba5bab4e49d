-- How a transition goes: which action may begin, which answers apply, and what each of them adds to the journal (Pacemaker Administration,
-- "Transitions"; that all that may begin does so before an answer is taken is a rule of this project).
use Rattle.std.specs.Prelude.{◌≡◌, ℕ, ◌-◌, ◌<◌, ◌≤◌, nat_lt, ◌==◌, ◌&&◌, ◌||◌, Bool, true, false, not, if◌then◌else◌, Option, Some, None, List, [], ◌∷◌, ◌++◌, length, filter, slice_get, count_by}
use Rattle.std.specs.List.{list_any, list_all, flat_map, range_with_len}
use Rattle.std.specs.Option.{option_map_or}
use Rattle.cluster_types.specs.declared.cluster.Cluster.{Cluster}
use Rattle.cluster_types.specs.declared.journal.Action.{Action}
use Rattle.cluster_types.specs.declared.journal.Action.TheVariants.{Probe, Operation}
use Rattle.cluster_types.specs.declared.journal.Answer.{Answer}
use Rattle.cluster_types.specs.declared.journal.Event.{Event}
use Rattle.cluster_types.specs.declared.journal.Event.TheVariants.{Up, Lost, Quorum, Wait, Begin, Ended}
use Rattle.cluster_types.specs.declared.journal.Outcome.{Outcome}
use Rattle.cluster_types.specs.declared.journal.Outcome.TheVariants.{Code, Gone}
use Rattle.cluster_types.specs.declared.leaf.Op.TheVariants.{Monitor}
use Rattle.cluster_types.specs.declared.leaf.Role.TheVariants as role
use Rattle.cluster_types.specs.AnswersThatApply.{applies_after, added_by, end_event, end_events}
use Rattle.cluster_types.specs.Each.{implies}
use Rattle.cluster_types.specs.ExitCodes.{success, not_running, running_promoted, degraded, degraded_promoted}
use Rattle.cluster_types.specs.Journals.{ends_number}
use Rattle.cluster_types.specs.Outcomes.{is_code_among, is_ignored}
use Rattle.cluster_types.specs.Sources.{Says}

-- the exit codes that are expected of an action (rule of this project)
abbrev pub expected_codes : Action → List ℕ
expected_codes (Probe r n) = not_running ∷ []
expected_codes (Operation Monitor r n interval role.Started) = success ∷ degraded ∷ []
expected_codes (Operation Monitor r n interval role.Promoted) = running_promoted ∷ degraded_promoted ∷ []
expected_codes _ = success ∷ []

-- the exit code with which an action ends when nothing more is said (rule of this project)
abbrev pub silent_code : Action → ℕ
silent_code (Probe r n) = not_running
silent_code (Operation Monitor r n interval role.Promoted) = running_promoted
silent_code _ = success

-- what is added when nothing more is said: of the actions in flight, in the order of their numbers, the first ends with its silent code
abbrev pub silent_end : Cluster → List Event → List (ℕ × Action) → List Event
silent_end c es in_flight = option_map_or (λ (p : ℕ × Action). end_event c es in_flight (Code (silent_code p.1)) p ∷ []) (slice_get in_flight 0) []

-- the outcome is a success: an expected exit code, or an outcome that is ignored
abbrev pub is_success : Cluster → Action → Outcome → Bool
is_success c a o = is_code_among (expected_codes a) o || is_ignored c a o

abbrev pub begins_number : ℕ → Event → Bool
begins_number k (Begin j a) = j == k
begins_number k _ = false

abbrev pub succeeds_number : Cluster → ℕ → Event → Bool
succeeds_number c k (Ended j a o moment) = j == k && is_success c a o
succeeds_number c k _ = false

-- the event aborts the transition: an action ended without success, a node joined or was lost, or quorum was said. That an action is gone doesn't
-- abort: the loss of its node, which follows, does. No answer takes a node down
abbrev pub aborts : Cluster → Event → Bool
aborts c (Ended k a Gone moment) = false
aborts c (Ended k a o moment) = not (is_success c a o)
aborts c (Up n) = true
aborts c (Lost n) = true
aborts c (Quorum now) = true
aborts c _ = false

-- the event is an answer from outside, and no end of an action of the transition. A report has the number 0
abbrev pub is_from_outside : Event → Bool
is_from_outside (Up n) = true
is_from_outside (Lost n) = true
is_from_outside (Quorum now) = true
is_from_outside (Wait seconds) = true
is_from_outside (Ended k a o moment) = k == 0
is_from_outside _ = false

-- the action of a number, from 1. Number 0 is that of reports and of the history
abbrev pub numbered : List Action → ℕ → Option Action
numbered actions k = if k == 0 then None else slice_get actions (k - 1)

-- a transition: the cluster; its actions, in the order of their numbers; whether the action of the one number must have succeeded before that of the other
-- begins; and the journal when it was planned
pub record Transition : Type 0 where
  pub cluster : Cluster
  pub actions : List Action
  pub precedes : ℕ → ℕ → Bool
  pub planned_at : List Event

module _ (t : Transition) where
  abbrev pub numbers : List ℕ
  numbers = range_with_len 1 (length t.actions)

  abbrev pub action_at : ℕ → Option Action
  action_at k = numbered t.actions k

  -- what is said from here on is of the events since it was planned
  module _ (since : List Event) where
    -- the journal: that of the plan, and the events since
    abbrev pub journal : List Event
    journal = t.planned_at ++ since

    abbrev pub has_begun : ℕ → Bool
    has_begun k = list_any (begins_number k) since

    abbrev pub has_number_ended : ℕ → Bool
    has_number_ended k = list_any (ends_number k) since

    abbrev pub has_succeeded : ℕ → Bool
    has_succeeded k = list_any (succeeds_number t.cluster k) since

    abbrev pub has_aborted : Bool
    has_aborted = list_any (aborts t.cluster) since

    -- the action of this number is in flight
    abbrev pub is_number_in_flight : ℕ → Bool
    is_number_in_flight k = has_begun k && not (has_number_ended k)

    -- the numbers in flight, ascending
    abbrev pub numbers_in_flight : List ℕ
    numbers_in_flight = filter is_number_in_flight numbers

    -- fewer actions than the batch limit are in flight (Pacemaker Explained, "batch-limit"); 0 is no limit (rule of this project)
    abbrev pub has_room : Bool
    has_room = t.cluster.properties.batch_limit == 0 || nat_lt (length numbers_in_flight) t.cluster.properties.batch_limit

    -- the action of this number may begin
    abbrev pub may_begin : ℕ → Bool
    may_begin k =
        list_any (λ j. j == k) numbers && not has_aborted && not (has_begun k) && has_room
        && list_all (λ j. implies (t.precedes j k) (has_succeeded j)) numbers

    -- no action may begin
    abbrev pub is_settled : Bool
    is_settled = not (list_any may_begin numbers)

    -- what is in flight, by number: each number in flight with its action. If nothing was in flight when it was planned, and it went by its steps since, then
    -- the same actions are in flight by begin (`both_say_what_is_in_flight` of crate `run_safety`)
    abbrev pub in_flight_by_number : List (ℕ × Action)
    in_flight_by_number = flat_map (λ k. option_map_or (λ a. (k, a) ∷ []) (action_at k) []) numbers_in_flight

    -- how many answers from outside were taken, by their events
    abbrev pub count_from_outside : ℕ
    count_from_outside = count_by is_from_outside since

    -- the answer applies now (rule of this project)
    abbrev pub Applies : Answer → Type 0
    Applies given = applies_after t.cluster journal in_flight_by_number count_from_outside given ≡ true

    -- the action of this number ends so, now
    abbrev pub ended : ℕ → Outcome → List Event
    ended k o = end_events t.cluster journal in_flight_by_number k o

    -- what an answer adds to the journal (rule of this project)
    abbrev pub answer_events : Answer → List Event
    answer_events given = added_by t.cluster journal in_flight_by_number given

    -- of the actions that may begin, the one of lowest number begins
    pub record Begins (k : ℕ) (a : Action) : Type 0 where
      pub action : action_at k ≡ Some a
      pub allowed : may_begin k ≡ true
      pub lowest : (j : ℕ) → may_begin j ≡ true → k ≤ j

    -- the transition waits for an answer: none may begin, and something is in flight
    pub record IsWaiting : Type 0 where
      pub settled : is_settled ≡ true
      pub busy : 0 < length numbers_in_flight

    -- an answer is taken: the transition waits for one, and it applies
    pub record TakesAnswer (given : Answer) : Type 0 where
      pub waiting : IsWaiting
      pub applies : Applies given

    -- this action is the one that ends when nothing more is said: the transition waits, and of what is in flight the action has the lowest number.
    -- That nothing is said, and with which code it ends, stand in `StepsOn`
    pub record EndsSilently (k : ℕ) (a : Action) : Type 0 where
      pub waiting : IsWaiting
      pub action : action_at k ≡ Some a
      pub in_flight : is_number_in_flight k ≡ true
      pub lowest : (j : ℕ) → is_number_in_flight j ≡ true → k ≤ j

    -- the transition has ended: none may begin, and nothing is in flight
    pub record HasEnded : Type 0 where
      pub settled : is_settled ≡ true
      pub idle : numbers_in_flight ≡ []

    -- each action has succeeded
    abbrev pub all_succeeded : Bool
    all_succeeded = list_all has_succeeded numbers

  -- one step of a transition after some events: an action begins, an answer is taken, or nothing more is said and an action ends with its silent code.
  -- It adds events, and leads from the answers to come before it to those after it; None where they aren't told. Where they are told, `whole` says
  -- that they are all (see `Says`)
  pub data StepsOn (whole : Bool) (since : List Event) : Option (List Answer) → List Event → Option (List Answer) → Type 0 where
    begins : (rest : Option (List Answer)) (k : ℕ) (a : Action) → Begins since k a → StepsOn whole since rest (Begin k a ∷ []) rest
    takes : (rest left : Option (List Answer)) (given : Answer) → Says whole rest (Some given) left → TakesAnswer since given
        → StepsOn whole since rest (answer_events since given) left
    is_silent : (rest left : Option (List Answer)) (k : ℕ) (a : Action) → Says whole rest None left → EndsSilently since k a
        → StepsOn whole since rest (ended since k (Code (silent_code a))) left

  -- step by step, from the events since it was planned and the answers to come to later events and the answers that are left then
  pub data GoesBySteps (whole : Bool) : List Event → Option (List Answer) → List Event → Option (List Answer) → Type 0 where
    here : (since : List Event) (rest : Option (List Answer)) → GoesBySteps whole since rest since rest
    one_more : (since events later : List Event) (rest middle left : Option (List Answer)) → StepsOn whole since rest events middle
        → GoesBySteps whole (since ++ events) middle later left → GoesBySteps whole since rest later left

-- a transition without actions: what applies in it, applies while nothing is to be done (rule of this project)
abbrev pub idling : Cluster → List Event → Transition
idling c es = record { cluster = c; actions = []; precedes = λ j k. false; planned_at = es }
