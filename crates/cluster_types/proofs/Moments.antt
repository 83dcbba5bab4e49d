-- The moment stays below its limit, whatever steps are taken.
use Rattle.std.proofs.Common.{arith, ◌≡◌, ◌<◌, ◌+◌, ◌^◌, ℕ, Bool, true, nat_lt, Option, Some, None, List, [], ◌∷◌, ◌++◌, map, sum_by, refl, ◌∙◌, ap, append_assoc, append-nil, subst, sym, filter}
use Rattle.std.specs.Option.{option_map_or}
use Rattle.std.proofs.lemmas.List.Sums.{sum_by-append}
use Rattle.cluster_types.specs.declared.cluster.Cluster.{Cluster}
use Rattle.cluster_types.specs.declared.journal.Action.{Action}
use Rattle.cluster_types.specs.declared.journal.Answer.{Answer}
use Rattle.cluster_types.specs.declared.journal.Answer.TheVariants.{End, Timeout, Lost, Up, Quorum, Wait, Report}
use Rattle.cluster_types.specs.declared.journal.Event.{Event}
use Rattle.cluster_types.specs.declared.journal.Event.TheVariants as event
use Rattle.cluster_types.specs.declared.journal.Outcome.{Outcome}
use Rattle.cluster_types.specs.declared.journal.Outcome.TheVariants.{Gone}
use Rattle.cluster_types.specs.AnswersThatApply.{added_by, applies_after, end_event, most_from_outside}
use Rattle.cluster_types.specs.Journals.{is_on, moment_of, seconds_of}
use Rattle.cluster_types.specs.Steps.{Applies, Transition, StepsOn, GoesBySteps, begins, takes, is_silent, here, one_more, answer_events, in_flight_by_number, journal, count_from_outside, idling}
use Rattle.lemmas.proofs.Booleans.{later}

abbrev limit : ℕ
limit = 2 ^ 40

one_moment : (es events : List Event) → moment_of (es ++ events) ≡ moment_of es + moment_of events
one_moment es events = sum_by-append seconds_of es events

plus_none : (m s : ℕ) → m + sum_by seconds_of (event.Wait s ∷ []) ≡ m + s
plus_none m s = omega arith

timeless : (es events : List Event) → moment_of events ≡ 0 → moment_of es < limit → moment_of (es ++ events) < limit
timeless es events none low = let sum = one_moment es events in omega (arith, sum, none, low)

module _ (c : Cluster) (es : List Event) (flight : List (ℕ × Action)) where
  ended_at_once : (o : Outcome) (found : Option (ℕ × Action)) → moment_of (option_map_or (λ p. end_event c es flight o p ∷ []) found []) ≡ 0
  ended_at_once o None = refl
  ended_at_once o (Some p) = refl

  ends_at_once : (o : Outcome) (some : List (ℕ × Action)) → moment_of (map (end_event c es flight o) some) ≡ 0
  ends_at_once o [] = refl
  ends_at_once o (p ∷ some) = ends_at_once o some

  -- an answer that applies
  pub answer_keeps : (taken : ℕ) (given : Answer) → applies_after c es flight taken given ≡ true → moment_of es < limit
      → moment_of (es ++ added_by c es flight given) < limit
  answer_keeps taken (End k code) h low = timeless es _ (ended_at_once _ _) low
  answer_keeps taken (Timeout k) h low = timeless es _ (ended_at_once _ _) low
  answer_keeps taken (Lost n) h low =
      let gone = filter (λ (p : ℕ × Action). is_on n p.1) flight in
      timeless es _ (one_moment (map (end_event c es flight Gone) gone) (event.Lost n ∷ []) ∙ ap (λ k. k + 0) (ends_at_once Gone gone)) low
  answer_keeps taken (Up n) h low = timeless es _ refl low
  answer_keeps taken (Quorum now) h low = timeless es _ refl low
  answer_keeps taken (Wait seconds) h low =
      let within : nat_lt (moment_of es + seconds) limit ≡ true = later (nat_lt taken most_from_outside) (nat_lt (moment_of es + seconds) limit) h in
      let sum : moment_of (es ++ event.Wait seconds ∷ []) ≡ moment_of es + seconds = one_moment es (event.Wait seconds ∷ []) ∙ plus_none (moment_of es) seconds in
      let fits : moment_of es + seconds < limit = grind arith in
      omega (arith, sum, fits)
  answer_keeps taken (Report n r interval code) h low = timeless es _ refl low

-- a step of a transition
module _ (t : Transition) (whole : Bool) where
  joined : (since events : List Event) → moment_of (journal t since ++ events) < limit → moment_of (journal t (since ++ events)) < limit
  joined since events h = subst (λ xs. moment_of xs < limit) (append_assoc t.planned_at since events) h

  step_keeps : (since events : List Event) (rest left : Option (List Answer)) → StepsOn t whole since rest events left → moment_of (journal t since) < limit
      → moment_of (journal t (since ++ events)) < limit
  step_keeps since _ rest _ (begins _ k a allowed) low = joined since _ (timeless (journal t since) _ refl low)
  step_keeps since _ rest left (takes _ _ given said taken) low =
      joined since _ (answer_keeps t.cluster (journal t since) (in_flight_by_number t since) (count_from_outside t since) given taken.applies low)
  step_keeps since _ rest left (is_silent _ _ k a said ends) low =
      joined since _ (timeless (journal t since) _ (ended_at_once t.cluster (journal t since) (in_flight_by_number t since) _ _) low)

pub steps_keep : (t : Transition) (whole : Bool) (rest left : Option (List Answer)) (since later : List Event) → GoesBySteps t whole since rest later left
    → moment_of (journal t since) < limit → moment_of (journal t later) < limit
steps_keep t whole rest _ since _ (here _ _) low = low
steps_keep t whole rest left since later (one_more _ events _ _ middle _ step more) low =
    steps_keep t whole middle left (since ++ events) later more (step_keeps t whole since events rest middle step low)

pub idle_keeps : (c : Cluster) (es : List Event) (given : Answer) → Applies (idling c es) [] given → moment_of es < limit
    → moment_of (es ++ answer_events (idling c es) [] given) < limit
idle_keeps c es given h low =
    let none = append-nil es in
    subst (λ xs. moment_of (xs ++ answer_events (idling c es) [] given) < limit) none
    (answer_keeps c (journal (idling c es) []) (in_flight_by_number (idling c es) []) (count_from_outside (idling c es) []) given h
    (subst (λ xs. moment_of xs < limit) (sym none) low))
