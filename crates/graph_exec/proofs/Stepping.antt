-- Each change of an executor is a step of its transition, so it stays under way.
use Rattle.std.proofs.Common.{◌≡◌, ◌≤◌, ◌-◌, ℕ, Bool, true, Option, None, Some, Result, Ok, Err, List, [], length, slice_get, sym, ap, subst}
use Rattle.std.specs.Prelude.{IfSome, IfNone, OnOk, OnErr}
use Rattle.cluster_types.specs.declared.journal.Action.{Action}
use Rattle.cluster_types.specs.declared.journal.Answer.{Answer}
use Rattle.cluster_types.specs.Graphs.{IsGraph}
use Rattle.cluster_types.specs.Sources.{untold}
use Rattle.cluster_types.specs.Steps.{Transition, GoesBySteps, begins, takes, is_silent}
use Rattle.run_safety.proofs.InFlight.{number_within}
use Rattle.run_safety.proofs.Planned.{place_of}
use Rattle.graph_exec.specs.Executors.{ExecutorOf, BeginsNow, IsAnswerRefused, StaysSettled, IsUnderWay, Took, Went, transition_in}
use Rattle.graph_exec.specs.Inner.ExecutorFields.{EndedSilently}
use Rattle.graph_exec.proofs.Carrying.{goes-on, went_step, went_untold}

-- what went on by steps is under way still
pub under_way_on : (whole : Bool) (old new : ExecutorOf) (rest left : Option (List Answer)) → IsUnderWay old → Went whole old new rest left → IsUnderWay new
under_way_on whole old new rest left h w =
    let going_is : transition_in new ≡ transition_in old = ap transition_in w.same in
    let more = (went_untold whole old new rest left w).steps in
    record {
      graph = subst IsGraph (sym (ap (λ (r : ExecutorOf). r.graph) w.same)) h.graph;
      steps = subst (λ (t : Transition). GoesBySteps t true [] None new.since None) (sym going_is)
          (goes-on (transition_in old) true [] old.since new.since None None None h.steps more);
    }

-- which action has begun
pub begun_high : (old new : ExecutorOf) (k : ℕ) → BeginsNow old new k → k ≤ length new.graph.actions
begun_high old new k b = rw b.goes_on (number_within old.graph.actions k b.action b.begins.action).1

pub begun_action : (old new : ExecutorOf) (k : ℕ) (b : BeginsNow old new k) (a : Action) → slice_get new.graph.actions (k - 1) ≡ Some a → b.action ≡ a
begun_action old new k b a is =
    let there : slice_get old.graph.actions (k - 1) ≡ Some b.action = place_of old.graph.actions k b.action b.begins.action in
    let here : slice_get old.graph.actions (k - 1) ≡ Some a = rw b.goes_on at is in
    cc

module _ (old new : ExecutorOf) (h : IsUnderWay old) where
  under_way_after : Went true old new None None → IsUnderWay new
  under_way_after w = under_way_on true old new None None h w

  pub begin_under_way : (k : ℕ) → BeginsNow old new k → IsUnderWay new
  begin_under_way k b = under_way_after (went_step true old new _ None None b.goes_on (begins None k b.action b.begins))

  pub take_under_way : (given : Answer) → Took old new given → IsUnderWay new
  take_under_way given t = under_way_after (went_step true old new _ None None t.goes_on (takes None None given (untold (Some given)) t.takes))

  pub silent_under_way : (given : Answer) → EndedSilently old new given → IsUnderWay new
  silent_under_way given s = under_way_after (went_step true old new _ None None s.goes_on (is_silent None None s.number s.action (untold None) s.ends))

  pub begun_under_way : (o : Option ℕ) → IfSome o (λ k. BeginsNow old new k) → IfNone o (StaysSettled old new) → IsUnderWay new
  begun_under_way (Some k) b n = begin_under_way k b
  begun_under_way None b n = rw n.same h

  pub taken_under_way : {X C : Type 0} (given : Answer) (r : Result X C) → OnOk r (Took old new given) → OnErr r (IsAnswerRefused old new given) → IsUnderWay new
  taken_under_way given (Ok x) t n = take_under_way given t
  taken_under_way given (Err c) t n = rw n.same h
