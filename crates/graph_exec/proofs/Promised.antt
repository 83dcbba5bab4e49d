-- The promises of a transition, from the laws of its steps.
use Rattle.std.proofs.Common.{◌≡◌, ◌&&◌, ◌++◌, not, ℕ, true, None, List, [], ◌==◌, refl}
use Rattle.std.specs.List.{list_any}
use Rattle.lemmas.proofs.Booleans.{sooner, later}
use Rattle.cluster_types.specs.declared.placement.Placed.{Placed}
use Rattle.cluster_types.specs.declared.journal.Event.{Event}
use Rattle.cluster_types.specs.Safety.{IsAtRest}
use Rattle.cluster_types.specs.Steps.{Transition, HasEnded, has_aborted, has_begun, has_room, may_begin, numbers}
use Rattle.cluster_types.proofs.SafetyLaws.{eager}
use Rattle.cluster_types.proofs.StepLaws.{at_each_begin, no_begin, predecessors-first}
use Rattle.run_safety.specs.OfPlans.{IsOfPlan}
use Rattle.run_safety.proofs.Planned.{of_graph}
use Rattle.run_safety.proofs.Safe.{is_safe, leaves_nothing, reaches_targets, stays_in_order}
use Rattle.graph_exec.specs.declared.transition.ends.WatchedEnd.{WatchedEnd}
use Rattle.graph_exec.specs.declared.transition.ends.WatchedEnd.TheVariants as how
use Rattle.graph_exec.specs.Promises.{EndsWell, IsGraphPlanned, KeepsBatchLimit, KeepsPromises}
use Rattle.graph_exec.specs.Executors.{ExecutorOf, IsUnderWay, transition_in}
use Rattle.graph_exec.specs.Transitions.{EndsAs}
use Rattle.graph_exec.proofs.NeverStuck.{upward}

-- what may begin has room
has_its_room : (t : Transition) (since : List Event) (k : ℕ) → may_begin t since k ≡ true → has_room t since ≡ true
has_its_room t since k h =
    later (list_any (λ j. j == k) (numbers t) && not (has_aborted t since) && not (has_begun t since k)) (has_room t since)
    (sooner (list_any (λ j. j == k) (numbers t) && not (has_aborted t since) && not (has_begun t since k) && has_room t since) _ h)

module _ (r : ExecutorOf) (u : IsUnderWay r) where
  keeps_batch_limit : KeepsBatchLimit (transition_in r) r.since
  keeps_batch_limit =
      at_each_begin (transition_in r) true (λ before k a. has_room (transition_in r) before ≡ true) (λ since k a b. has_its_room (transition_in r) since k b.allowed) [] r.since None None u.steps
      (λ before after k a q. no_begin (has_room (transition_in r) before ≡ true) [] before after k a refl q)

  module _ (placed : Placed) (is : IsGraphPlanned r placed) where
    of_plan : IsOfPlan r.promotions placed (transition_in r)
    of_plan = of_graph r.cluster r.planned_at r.promotions placed r.graph is.valid is.at_rest is.plan

    rests : HasEnded (transition_in r) r.since → IsAtRest (r.planned_at ++ r.since)
    rests ended = (
      stays_in_order r.promotions placed (transition_in r) of_plan true None None r.since u.steps,
      leaves_nothing r.promotions placed (transition_in r) of_plan true None None r.since u.steps ended.idle,
    )

  pub promised : KeepsPromises r
  promised = record {
    predecessors = predecessors-first (transition_in r) true None None r.since u.steps;
    eager = eager (transition_in r) true None None r.since (upward r.graph u.graph) u.steps;
    batch_limit = keeps_batch_limit;
    safe = λ placed is. is_safe r.promotions placed (transition_in r) (of_plan placed is) true None None r.since u.steps;
    in_order = λ placed is. stays_in_order r.promotions placed (transition_in r) (of_plan placed is) true None None r.since u.steps;
  }

  pub ends_well : (end : WatchedEnd) → EndsAs r end → EndsWell r end
  ends_well how.Complete e = λ placed is.
      (rests placed is e.ended, reaches_targets r.promotions placed (transition_in r) (of_plan placed is) true None None r.since u.steps e.ended e.unaborted)
  ends_well (how.Aborted event) e = λ placed is. rests placed is e.ended
  ends_well (how.Unexpected given) e = tt
  ends_well how.SourceFault e = tt
  ends_well how.Stopped e = tt
