-- A run is safe all the way: between transitions it is at rest, and each transition is that of its plan.
use Rattle.std.proofs.Common.{arith, ◌≡◌, ℕ, Bool, true, List, [], ◌++◌, refl, ◌∙◌}
use Rattle.std.specs.Prelude.{Option, Some, None}
use Rattle.std.specs.List.{list_all}
use Rattle.cluster_types.specs.declared.cluster.Cluster.{Cluster}
use Rattle.cluster_types.specs.declared.journal.Action.{Action}
use Rattle.cluster_types.specs.declared.journal.Answer.{Answer}
use Rattle.cluster_types.specs.declared.journal.Event.{Event}
use Rattle.cluster_types.specs.declared.journal.Promotion.{Promotion}
use Rattle.cluster_types.specs.declared.placement.Placed.{Placed}
use Rattle.cluster_types.specs.declared.run.RunLine.{RunLine}
use Rattle.cluster_types.specs.Plans.{IsPlan, transition_of}
use Rattle.cluster_types.specs.Runs.{RunStanding, due, amid, idle, RunsOn, plans, goes, completes, aborts, answers, Runs, here, one_more}
use Rattle.cluster_types.specs.Safety.{IsAtRest, IsSafeAt, IsSafeRun}
use Rattle.cluster_types.specs.Steps.{Transition, Begins, GoesBySteps, StepsOn, here as none_yet, action_at, answer_events, numbers_in_flight, journal, idling, Applies}
use Rattle.cluster_types.specs.Valid.{IsValid}
use Rattle.cluster_types.proofs.SourceLaws.{goes-more, none-in_flight, step-untold}
use Rattle.cluster_types.proofs.StepLaws.{begins_nothing}
use Rattle.cluster_types.proofs.JournalLaws.{nothing_begun}
use Rattle.run_safety.proofs.InFlight.{number_within}
use Rattle.run_safety.proofs.Losses.{add_stands, at_first, gone_begins_nothing}
use Rattle.run_safety.proofs.Planned.{of_plan}
use Rattle.run_safety.proofs.Safe.{is_safe, leaves_nothing, reaches_targets, stays_in_order}
use Rattle.run_safety.proofs.Shapes.{Adds, nothing, begun, over, reported, lost, up, quorum, wait, answer_adds}

-- what is added begins nothing, where no action may begin
pub silent : (t : Transition) (since events : List Event) → ((k : ℕ) (a : Action) → Begins t since k a → ⊥) → Adds t since events → list_all begins_nothing events ≡ true
silent t since _ none nothing = refl
silent t since _ none (begun k a begins) = absurd (none k a begins)
silent t since _ none (over k a o m flies h) = refl
silent t since _ none (reported r n interval code m h) = refl
silent t since _ none (lost n h) = gone_begins_nothing t since n
silent t since _ none (up n) = refl
silent t since _ none (quorum now) = refl
silent t since _ none (wait seconds) = refl

module _ (c : Cluster) (promotions : List Promotion) (whole : Bool) (valid : IsValid c) where
  -- a transition of the run: that of a plan for a journal at rest, and how far it went
  pub data IsUnderWay : Transition → List Event → Type 0 where
    planned : (es : List Event) (placed : Placed) (actions : List Action) → IsAtRest es → IsPlan c es promotions placed actions → (since : List Event)
        → GoesBySteps (transition_of c es actions) whole [] None since None → IsUnderWay (transition_of c es actions) since

  abbrev pub StandsAt : RunStanding → Type 0
  StandsAt (due k es) = IsAtRest es
  StandsAt (amid k t since) = IsUnderWay t since
  StandsAt (idle k es) = IsAtRest es

  rests : (t : Transition) (since : List Event) → IsUnderWay t since → numbers_in_flight t since ≡ [] → IsAtRest (journal t since)
  rests _ _ (planned es placed actions at plan since so_far) none =
      let t = transition_of c es actions in
      let of = of_plan c es promotions placed actions valid at plan in (
        stays_in_order promotions placed t of whole None None since so_far,
        leaves_nothing promotions placed t of whole None None since so_far none,
      )

  -- while nothing is to be done
  idly : (es : List Event) (given : Answer) → IsAtRest es → Applies (idling c es) [] given → IsAtRest (es ++ answer_events (idling c es) [] given)
  idly es given at applies =
      let t = idling c es in (
        (add_stands t (record { online = λ k n a is w. never k a is; fences = λ k n is. never k _ is }) [] (answer_events t [] given) (at_first t
            (record { online = λ k n a is w. never k a is; fences = λ k n is. never k _ is }) at.0) (answer_adds t [] given applies)).orderly,
        none-in_flight es (answer_events t [] given) at.1 ∙ nothing_begun (answer_events t [] given) (silent t [] (answer_events t [] given) (λ k a begins. never k a begins.action) (answer_adds t [] given applies)),
      )
    where
      never : {R : Type 0} (k : ℕ) (a : Action) → action_at (idling c es) k ≡ Some a → R
      never k a is = let within = number_within [] k a is in absurd (let f : ⊥ = omega (arith, within.0, within.1) in f)

  one_step : (at next : RunStanding) (rest left : Option (List Answer)) (lines : List RunLine) → RunsOn c promotions whole at rest lines next left → StandsAt at → StandsAt next
  one_step _ _ rest _ _ (plans k es _ placed actions plan) at = planned es placed actions at plan [] (none_yet [] None)
  one_step _ _ rest left _ (goes k t since events _ _ step) under = on t since events under step
    where
      on : (t : Transition) (since events : List Event) → IsUnderWay t since → StepsOn t whole since rest events left → IsUnderWay t (since ++ events)
      on _ _ events (planned es placed actions at plan since so_far) step =
          planned es placed actions at plan (since ++ events)
          (goes-more (transition_of c es actions) whole [] since events None None None so_far (step-untold (transition_of c es actions) whole since events rest left step))
  one_step _ _ rest _ _ (completes k t since _ ended unaborted) under = rests t since under ended.idle
  one_step _ _ rest _ _ (aborts k t since _ ended aborted) under = rests t since under ended.idle
  one_step _ _ rest left _ (answers k es _ _ given said applies) at = idly es given at applies

  stands_at : (at later : RunStanding) (rest left : Option (List Answer)) (lines : List RunLine) → Runs c promotions whole at rest lines later left → StandsAt at → StandsAt later
  stands_at at _ rest _ _ (here _ _) stands = stands
  stands_at at after rest left _ (one_more _ next _ _ middle _ lines others step more) stands =
      stands_at next after middle left others more (one_step at next rest middle lines step stands)

  safe_at : (at : RunStanding) → StandsAt at → IsSafeAt c promotions at
  safe_at (due k es) at = at
  safe_at (idle k es) at = at
  safe_at (amid k t since) under = by t since under
    where
      by : (t : Transition) (since : List Event) → IsUnderWay t since → IsSafeAt c promotions (amid k t since)
      by _ _ (planned es placed actions at plan since so_far) =
          let t = transition_of c es actions in
          let of = of_plan c es promotions placed actions valid at plan in (
            stays_in_order promotions placed t of whole None None since so_far,
            is_safe promotions placed t of whole None None since so_far,
            λ other same ended unaborted. reaches_targets promotions other t (of_plan c es promotions other actions valid at same) whole None None since so_far ended unaborted,
          )

  pub safe_run : (es : List Event) (rest : Option (List Answer)) → IsAtRest es → IsSafeRun c promotions whole es rest
  safe_run es rest at_rest at lines left runs = safe_at at (stands_at (due 1 es) at rest left lines runs at_rest)
