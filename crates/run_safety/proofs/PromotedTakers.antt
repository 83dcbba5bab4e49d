-- What is needed of an action that takes a promoted role away.
use Rattle.std.proofs.Common.{◌≡◌, ℕ, Bool, true, false, eqb-true, refl, sym, subst, ap}
use Rattle.std.specs.Prelude.{Some}
use Rattle.std.proofs.lemmas.Bool.{both_ways}
use Rattle.cluster_types.specs.declared.journal.Action.{Action}
use Rattle.cluster_types.specs.declared.journal.Action.TheVariants.{Fence, Probe, Operation}
use Rattle.cluster_types.specs.declared.leaf.Op.{Op}
use Rattle.cluster_types.specs.declared.leaf.Op.TheVariants as op
use Rattle.cluster_types.specs.declared.leaf.Role.{Role}
use Rattle.cluster_types.specs.declared.leaf.Role.TheVariants as role
use Rattle.cluster_types.specs.NeededActions.{NeededBeforeMigration, fence, probe, step, monitor, GetsStep, kept, sent, taken_in, is_monitor_for}
use Rattle.cluster_types.specs.NodeStates.{is_online}
use Rattle.cluster_types.specs.Pins.{is_unprobed_state}
use Rattle.cluster_types.specs.Steps.{Transition, action_at}
use Rattle.cluster_types.specs.Tables.{Targets}
use Rattle.plan_laws.proofs.CellSteps.{is_step}
use Rattle.run_safety.proofs.Carried.{Carries, IsSound}
use Rattle.run_safety.proofs.Needing.{state, IsNeeded}
use Rattle.run_safety.proofs.Nodes.{fence_offline}
use Rattle.run_safety.proofs.Touching.{takes_promoted}
use Rattle.run_safety.proofs.Truths.{one_cell, refuse}

abbrev pub is_taker : Op → Bool
is_taker op.Start = true
is_taker op.Stop = true
is_taker op.Demote = true
is_taker _ = false

module _ (t : Transition) (targets : Targets) (r n : ℕ) where
  abbrev pub Gets : Op → Type 0
  Gets o = GetsStep t.cluster t.planned_at targets r n o

  -- what takes the role away on an online node: the probe of the cell, a step of it, or a monitor of what isn't promoted
  pub data Takes (y : Action) : Type 0 where
    is_probe : y ≡ Probe r n → is_unprobed_state (state t r n) ≡ true → Takes y
    is_a_step : (o : Op) → y ≡ Operation o r n 0 role.Started → is_taker o ≡ true → Gets o → Takes y
    is_watch : is_monitor_for role.Started (targets r n) ≡ true → Takes y

module _ (t : Transition) (targets : Targets) (carries : Carries t targets) (sound : IsSound t targets) (r n : ℕ) (online : is_online t.cluster n t.planned_at ≡ true) where
  here_step : (s m : ℕ) (o : Op) → is_taker o ≡ true → (s ≡ r) × (m ≡ n) → GetsStep t.cluster t.planned_at targets s m o → Takes t targets r n (Operation o s m 0 role.Started)
  here_step s m o takes (leaf, node) g =
      is_a_step o (subst (λ z. Operation o z m 0 role.Started ≡ Operation o r n 0 role.Started) (sym leaf) (ap (λ z. Operation o r z 0 role.Started) node)) takes
      (subst (λ z. GetsStep t.cluster t.planned_at targets z n o) leaf (subst (λ z. GetsStep t.cluster t.planned_at targets s z o) node g))

  step_takes : (s m : ℕ) (o : Op) → GetsStep t.cluster t.planned_at targets s m o → takes_promoted r n (Operation o s m 0 role.Started) ≡ true → Takes t targets r n (Operation o s m 0 role.Started)
  step_takes s m op.Start g e = here_step s m op.Start refl (one_cell r n s m e) g
  step_takes s m op.Stop g e = here_step s m op.Stop refl (one_cell r n s m e) g
  step_takes s m op.Demote g e = here_step s m op.Demote refl (one_cell r n s m e) g
  step_takes s m op.Promote g e = absurd (let f : ⊥ = cc in f)
  step_takes s m op.Monitor g e = absurd (both_ways false refl (is_step t.cluster t.planned_at targets s m op.Monitor g).fitting)

  watch_takes : (s m i : ℕ) (held : Role) → is_monitor_for held (targets s m) ≡ true → takes_promoted r n (Operation op.Monitor s m i held) ≡ true → Takes t targets r n (Operation op.Monitor s m i held)
  watch_takes s m i role.Started g e =
      let same = one_cell r n s m e in
      is_watch (subst (λ z. is_monitor_for role.Started (targets z n) ≡ true) same.0 (subst (λ z. is_monitor_for role.Started (targets s z) ≡ true) same.1 g))
  watch_takes s m i role.Promoted g e = absurd (let f : ⊥ = cc in f)

  takes_needs : (y : Action) → IsNeeded t targets y → takes_promoted r n y ≡ true → Takes t targets r n y
  takes_needs y (kept _ f others) e = of_first y f (kept y f others) e
    where
      of_first : (y : Action) → NeededBeforeMigration t.cluster t.planned_at targets y → IsNeeded t targets y → takes_promoted r n y ≡ true → Takes t targets r n y
      of_first _ (fence m k due) needs e =
          let off = fence_offline t targets carries sound (Fence m) m needs refl in
          refuse (is_online t.cluster n t.planned_at) (subst (λ z. is_online t.cluster z t.planned_at ≡ false) (eqb-true m n e) off) online
      of_first _ (probe s m g k u) needs e =
          let same = one_cell r n s m e in
          let leaf : s ≡ r = same.0 in
          let node : m ≡ n = same.1 in
          is_probe (subst (λ z. Probe z m ≡ Probe r n) (sym leaf) (ap (λ z. Probe r z) node))
          (subst (λ z. is_unprobed_state (state t z n) ≡ true) leaf (subst (λ z. is_unprobed_state (state t s z) ≡ true) node u))
      of_first _ (step s m o g k gets) needs e = step_takes s m o gets e
      of_first _ (monitor s m w g k has watch) needs e = watch_takes s m w.interval_ms w.role watch.1 e
  takes_needs _ (sent s from m g) e = absurd (let f : ⊥ = cc in f)
  takes_needs _ (taken_in s from m g) e = absurd (let f : ⊥ = cc in f)

  pub taken_or_not : (R : Type 0) (j : ℕ) (y : Action) → action_at t j ≡ Some y → (takes_promoted r n y ≡ false → R) → (Takes t targets r n y → R) → R
  taken_or_not R j y is still takes = by (takes_promoted r n y) refl
    where
      by : (b : Bool) → takes_promoted r n y ≡ b → R
      by false e = still e
      by true e = takes (takes_needs y (carries.needed j y is) e)
