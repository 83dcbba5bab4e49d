-- A complete transition ends in its targets.
use Rattle.std.proofs.Common.{arith, ◌≡◌, ◌<◌, ◌≤◌, ℕ, Bool, true, false, List, [], length, refl}
use Rattle.std.specs.Prelude.{Option, Some, is_none}
use Rattle.lemmas.proofs.Ranges.{each_in_range}
use Rattle.cluster_types.specs.declared.journal.Action.TheVariants.{Fence, Probe}
use Rattle.cluster_types.specs.declared.journal.Answer.{Answer}
use Rattle.cluster_types.specs.declared.journal.Event.{Event}
use Rattle.cluster_types.specs.declared.placement.Target.{Target}
use Rattle.cluster_types.specs.declared.placement.Target.TheVariants as target
use Rattle.cluster_types.specs.CellStates.{cell_state, is_blocked, is_unclear, last_outcome}
use Rattle.cluster_types.specs.Journals.{Orderly, joined, last_sign}
use Rattle.cluster_types.specs.May.{may_be_running, may_be_promoted}
use Rattle.cluster_types.specs.NodeStates.{is_online}
use Rattle.cluster_types.specs.Pins.{is_pinned}
use Rattle.cluster_types.specs.Safety.{EndsInTargets, IsEager, state_of_target}
use Rattle.cluster_types.specs.Steps.{Transition, GoesBySteps, HasEnded, begins_number, has_aborted, has_succeeded, journal, succeeds_number}
use Rattle.cluster_types.specs.Tables.{Targets, is_promoted_target, is_somewhere}
use Rattle.cluster_types.specs.Valid.{IsValid}
use Rattle.cluster_types.proofs.SafetyLaws.{eager}
use Rattle.plan_laws.proofs.CellStates.{state_by}
use Rattle.run_safety.proofs.Calm.{Calm, calm_until}
use Rattle.run_safety.proofs.Carried.{Carries, IsSound}
use Rattle.run_safety.proofs.Fenced.{counted, fenced_offline, succeeds_once}
use Rattle.run_safety.proofs.KnownAt.{online_still, seen, unblocked}
use Rattle.run_safety.proofs.Losses.{stands_always}
use Rattle.run_safety.proofs.Nodes.{keeps_to_nodes}
use Rattle.run_safety.proofs.Preceded.{succeeded_begun}
use Rattle.run_safety.proofs.PromotedAt.{promoted_as_targeted}
use Rattle.run_safety.proofs.RunsAt.{done, runs_as_targeted}
use Rattle.run_safety.proofs.SureAt.{sure_there}

-- the state of a cell whose parts are as the target says
as_target : (u : Target) (online unseen blocked left promoted run : Bool) → online ≡ true → unseen ≡ false → blocked ≡ false → run ≡ is_somewhere u → promoted ≡ is_promoted_target u
    → (is_somewhere u ≡ true → left ≡ false) → state_by online unseen blocked left promoted run ≡ state_of_target u
as_target target.Nowhere online unseen blocked left promoted run a b c d e f = rw (a, b, c, d, e) refl
as_target target.Started online unseen blocked left promoted run a b c d e f = rw (a, b, c, d, e, f refl) refl
as_target target.Promoted online unseen blocked left promoted run a b c d e f = rw (a, b, c, d, e, f refl) refl

module _ (t : Transition) (targets : Targets) (carries : Carries t targets) (sound : IsSound t targets) (valid : IsValid t.cluster) (orderly : Orderly t.planned_at)
    (upward : (j k : ℕ) → t.precedes j k ≡ true → j < k) (whole : Bool) (rest left : Option (List Answer)) (since : List Event) (goes : GoesBySteps t whole [] rest since left)
    (ended : HasEnded t since) (unaborted : has_aborted t since ≡ false) where
  calm : Calm t since
  calm = calm_until t whole rest left since goes unaborted

  is_eager : IsEager t since
  is_eager = eager t whole rest left since upward goes

  all : (k : ℕ) → 0 < k → k ≤ length t.actions → has_succeeded t since k ≡ true
  all k low high =
      each_in_range (has_succeeded t since) 1 (length t.actions) k (omega (arith, low)) (omega (arith, high)) (is_eager.never_stuck unaborted ended.idle ended.settled)

  there : (n : ℕ) → is_online t.cluster n t.planned_at ≡ true → last_sign n (journal t since) ≡ Some joined
  there n on = (stands_always t (keeps_to_nodes t targets carries sound) whole rest left since orderly goes).steady unaborted n on

  cell_as_targeted : (r n : ℕ) → r < length t.cluster.leaves → n < length t.cluster.nodes → is_online t.cluster n t.planned_at ≡ true
      → is_pinned t.cluster t.planned_at r ≡ false → cell_state t.cluster r n (journal t since) ≡ state_of_target (targets r n)
  cell_as_targeted r n h l on free =
      as_target (targets r n) (is_online t.cluster n (journal t since)) (is_none (last_outcome t.cluster r n (journal t since))) (is_blocked t.cluster r n (journal t since))
      (is_unclear t.cluster r n (journal t since)) (may_be_promoted t.cluster r n (journal t since)) (may_be_running t.cluster r n (journal t since))
      (online_still t since calm n on (there n on))
      (seen t since calm targets carries r n h l free on (done t targets carries sound orderly since calm all (Probe r n)))
      (unblocked t since calm targets carries r n h l free on)
      (runs_as_targeted t targets carries sound orderly since calm all r n h l on)
      (promoted_as_targeted t targets carries sound orderly since calm all r n h l on)
      (λ somewhere. sure_there t targets carries sound orderly valid since calm all r n h l on free somewhere)

  pub ends_in_targets : EndsInTargets t targets since
  ends_in_targets = record {
    begun = λ k low high.
        let some = counted (begins_number k) since (succeeded_begun t since k calm (all k low high)) in
        let few = is_eager.begins_once k in omega (arith, some, few);
    succeeded = λ k low high.
        let some = counted (succeeds_number t.cluster k) since (all k low high) in
        let few = succeeds_once t since k calm in omega (arith, some, few);
    may_run = λ r n h l on. runs_as_targeted t targets carries sound orderly since calm all r n h l on;
    may_run_promoted = λ r n h l on. promoted_as_targeted t targets carries sound orderly since calm all r n h l on;
    cells = cell_as_targeted;
    fenced = λ n l due. fenced_offline t targets carries since calm n l due (done t targets carries sound orderly since calm all (Fence n));
  }
