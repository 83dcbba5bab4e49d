-- Each action of a plan has its nodes online when it is planned, and a fence has one that isn't.
use Rattle.std.proofs.Common.{◌≡◌, ◌==◌, not, ℕ, Bool, true, false, eqb-true, refl, subst}
use Rattle.std.proofs.lemmas.Bool.{both_ways, true_from_ne_false}
use Rattle.lemmas.proofs.Booleans.{either, sooner, later}
use Rattle.cluster_types.specs.declared.journal.Action.{Action}
use Rattle.cluster_types.specs.declared.journal.Action.TheVariants.{Fence}
use Rattle.cluster_types.specs.declared.journal.Event.TheVariants.{Begin}
use Rattle.cluster_types.specs.declared.leaf.Op.{Op}
use Rattle.cluster_types.specs.declared.leaf.Op.TheVariants as op
use Rattle.cluster_types.specs.declared.states.CellState.{CellState}
use Rattle.cluster_types.specs.declared.states.CellState.TheVariants as cell
use Rattle.cluster_types.specs.declared.states.NodeState.{NodeState}
use Rattle.cluster_types.specs.declared.states.NodeState.TheVariants as node
use Rattle.cluster_types.specs.CellStates.{cell_state}
use Rattle.cluster_types.specs.Journals.{needs_node}
use Rattle.cluster_types.specs.NeededActions.{NeededBeforeMigration, fence, probe, step, monitor, Needed, kept, sent, taken_in}
use Rattle.cluster_types.specs.NodeStates.{is_online, is_online_state, is_unclean_state, is_standby, node_state}
use Rattle.cluster_types.specs.Pins.{is_unprobed_state}
use Rattle.cluster_types.specs.Rights.{may_fence}
use Rattle.cluster_types.specs.Steps.{Transition}
use Rattle.cluster_types.specs.Tables.{Targets}
use Rattle.cluster_types.specs.Terms.{is_active}
use Rattle.plan_laws.proofs.CellSteps.{IsStep, is_step, is_known, is_promoted_state}
use Rattle.run_safety.proofs.Carried.{Carries, IsSound}
use Rattle.run_safety.proofs.Givers.{start_step, monitored_somewhere}
use Rattle.run_safety.proofs.Standing.{KeepsToNodes}

pub unclean_offline : (s : NodeState) → is_unclean_state s ≡ true → is_online_state s ≡ false
unclean_offline node.Unclean h = refl
unclean_offline node.Offline h = refl
unclean_offline node.Online h = cc

module _ (t : Transition) (targets : Targets) (carries : Carries t targets) (sound : IsSound t targets) where
  -- a cell whose state isn't Away has its node online
  pub online_by : (f : CellState → Bool) → f cell.Away ≡ false → (r n : ℕ) → f (cell_state t.cluster r n t.planned_at) ≡ true → is_online t.cluster n t.planned_at ≡ true
  online_by f away r n h = true_from_ne_false (is_online t.cluster n t.planned_at) (λ e. both_ways (f (cell_state t.cluster r n t.planned_at)) (rw e away) h)

  at_node : (m n : ℕ) → (m == n) ≡ true → is_online t.cluster m t.planned_at ≡ true → is_online t.cluster n t.planned_at ≡ true
  at_node m n h on = subst (λ z. is_online t.cluster z t.planned_at ≡ true) (eqb-true m n h) on

  step_online : (r n : ℕ) (o : Op) → IsStep t.cluster t.planned_at targets r n o → is_online t.cluster n t.planned_at ≡ true
  step_online r n op.Start is = online_by is_known refl r n (sooner (is_known (cell_state t.cluster r n t.planned_at)) _ is.fitting)
  step_online r n op.Promote is = online_by is_known refl r n (sooner (is_known (cell_state t.cluster r n t.planned_at)) _ is.fitting)
  step_online r n op.Stop is = online_by is_active refl r n is.fitting
  step_online r n op.Demote is = online_by is_promoted_state refl r n is.fitting
  step_online r n op.Monitor is = absurd (both_ways false refl is.fitting)

  is_on_state : CellState → Bool
  is_on_state cell.On = true
  is_on_state _ = false

  first_online : (k n : ℕ) (a : Action) → NeededBeforeMigration t.cluster t.planned_at targets a → needs_node n (Begin k a) ≡ true → is_online t.cluster n t.planned_at ≡ true
  first_online k n _ (fence m l e) h = cc
  first_online k n _ (probe r m g l e) h = at_node m n h (online_by is_unprobed_state refl r m e)
  first_online k n _ (step r m o g l gets) h = at_node m n h (step_online r m o (is_step t.cluster t.planned_at targets r m o gets))
  first_online k n _ (monitor r m w g l has needs) h =
      at_node m n h (sooner _ (not (is_standby t.cluster m)) (sound.lawful.cells r m g l needs.0 (monitored_somewhere w.role (targets r m) needs.1)).usable)

  needed_online : (k n : ℕ) (a : Action) → Needed t.cluster t.planned_at targets a → needs_node n (Begin k a) ≡ true → is_online t.cluster n t.planned_at ≡ true
  needed_online k n a (kept _ f others) h = first_online k n a f h
  needed_online k n _ (sent r from m g) h =
      either (from == n) (m == n) h (λ e. at_node from n e (source from g.running)) (λ e. at_node m n e (step_online r m op.Start (start_step t.cluster t.planned_at targets r m g.started)))
    where
      source : (from : ℕ) → cell_state t.cluster r from t.planned_at ≡ cell.On → is_online t.cluster from t.planned_at ≡ true
      source from e = online_by is_active refl r from (rw e refl)
  needed_online k n _ (taken_in r from m g) h = at_node m n h (step_online r m op.Start (start_step t.cluster t.planned_at targets r m g.started))

  pub fence_offline : (a : Action) (n : ℕ) → Needed t.cluster t.planned_at targets a → a ≡ Fence n → is_online t.cluster n t.planned_at ≡ false
  fence_offline a n (kept _ f others) e = by a f e
    where
      by : (a : Action) → NeededBeforeMigration t.cluster t.planned_at targets a → a ≡ Fence n → is_online t.cluster n t.planned_at ≡ false
      by _ (fence m l h) e =
          let same : m ≡ n = cc in
          subst (λ z. is_online t.cluster z t.planned_at ≡ false) same (unclean_offline (node_state t.cluster m t.planned_at) (later (may_fence t.cluster t.planned_at) _ h))
      by _ (probe r m g l h) e = absurd (let f : ⊥ = cc in f)
      by _ (step r m o g l h) e = absurd (let f : ⊥ = cc in f)
      by _ (monitor r m w g l has h) e = absurd (let f : ⊥ = cc in f)
  fence_offline _ n (sent r from m g) e = absurd (let f : ⊥ = cc in f)
  fence_offline _ n (taken_in r from m g) e = absurd (let f : ⊥ = cc in f)

  pub keeps_to_nodes : KeepsToNodes t
  keeps_to_nodes = record {
    online = λ k n a is h. needed_online k n a (carries.needed k a is) h;
    fences = λ k n is. fence_offline (Fence n) n (carries.needed k (Fence n) is) refl;
  }
