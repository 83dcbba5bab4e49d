-- Where a leaf has a target on an online node it may run, once all have succeeded.
use Rattle.std.proofs.Common.{arith, inl, inr, ◌⊎◌, ◌≡◌, ◌<◌, not, if◌then◌else◌, ℕ, Bool, true, false, [], length, refl, sym, subst}
use Rattle.std.specs.Prelude.{Contains}
use Rattle.std.specs.List.{list_all}
use Rattle.std.proofs.lemmas.Bool.{not-true}
use Rattle.lemmas.proofs.Booleans.{sooner, later}
use Rattle.lemmas.proofs.Searches.{each_passes}
use Rattle.cluster_types.specs.declared.journal.Action.TheVariants.{Operation}
use Rattle.cluster_types.specs.declared.leaf.Op.TheVariants as op
use Rattle.cluster_types.specs.declared.leaf.Role.TheVariants as role
use Rattle.cluster_types.specs.declared.placement.Target.{Target}
use Rattle.cluster_types.specs.declared.placement.Target.TheVariants as target
use Rattle.cluster_types.specs.declared.states.CellState.{CellState}
use Rattle.cluster_types.specs.declared.states.CellState.TheVariants as cell
use Rattle.cluster_types.specs.May.{may_be_running, may_be_promoted}
use Rattle.cluster_types.specs.NeededActions.{Cycled, runs, steps_of}
use Rattle.cluster_types.specs.NodeStates.{is_online}
use Rattle.cluster_types.specs.Pins.{is_pinned, is_unprobed_state}
use Rattle.cluster_types.specs.Precedence.{is_same_op}
use Rattle.cluster_types.specs.Steps.{Transition}
use Rattle.cluster_types.specs.Tables.{Targets, is_somewhere}
use Rattle.cluster_types.specs.Terms.{is_active}
use Rattle.plan_laws.proofs.CellStates.{says_of, blocked_pins}
use Rattle.plan_laws.proofs.CellSteps.{is_step}
use Rattle.run_safety.proofs.Carried.{Carries, IsSound}
use Rattle.run_safety.proofs.Deciding.{cycled_or_not}
use Rattle.run_safety.proofs.Needing.{state, IsNeeded, uncycled_idle}
use Rattle.run_safety.proofs.Takers.{GetsStop, running_may, MigratesHere, start_or_migration}
use Rattle.run_safety.proofs.Truths.{refuse}

-- a start among the steps
start_of_idle : (pinned : Bool) (s : CellState) (u : Target) → pinned ≡ false → (s ≡ cell.Unprobed) ⊎ ((s ≡ cell.Off) ⊎ (s ≡ cell.Failed)) → is_somewhere u ≡ true
    → Contains (if pinned then [] else steps_of s u false) op.Start
start_of_idle true s u e h g = absurd (let f : ⊥ = cc in f)
start_of_idle false s target.Nowhere e h g = absurd (let f : ⊥ = cc in f)
start_of_idle false s target.Started e (inl h) g = subst (λ z. Contains (steps_of z target.Started false) op.Start) (sym h) (0, omega arith, refl)
start_of_idle false s target.Promoted e (inl h) g = subst (λ z. Contains (steps_of z target.Promoted false) op.Start) (sym h) (0, omega arith, refl)
start_of_idle false s target.Started e (inr (inl h)) g = subst (λ z. Contains (steps_of z target.Started false) op.Start) (sym h) (0, omega arith, refl)
start_of_idle false s target.Promoted e (inr (inl h)) g = subst (λ z. Contains (steps_of z target.Promoted false) op.Start) (sym h) (0, omega arith, refl)
start_of_idle false s target.Started e (inr (inr h)) g = subst (λ z. Contains (steps_of z target.Started false) op.Start) (sym h) (1, omega arith, refl)
start_of_idle false s target.Promoted e (inr (inr h)) g = subst (λ z. Contains (steps_of z target.Promoted false) op.Start) (sym h) (1, omega arith, refl)

start_of_cycled : (pinned : Bool) (s : CellState) (u : Target) → pinned ≡ false → runs s ≡ true → is_somewhere u ≡ true → Contains (if pinned then [] else steps_of s u true) op.Start
start_of_cycled true s u e h g = absurd (let f : ⊥ = cc in f)
start_of_cycled false s target.Nowhere e h g = absurd (let f : ⊥ = cc in f)
start_of_cycled false cell.On target.Started e h g = (1, omega arith, refl)
start_of_cycled false cell.On target.Promoted e h g = (1, omega arith, refl)
start_of_cycled false cell.Promoted target.Started e h g = (2, omega arith, refl)
start_of_cycled false cell.Promoted target.Promoted e h g = (2, omega arith, refl)
start_of_cycled false cell.Off u e h g = absurd (let f : ⊥ = cc in f)
start_of_cycled false cell.Away u e h g = absurd (let f : ⊥ = cc in f)
start_of_cycled false cell.Unprobed u e h g = absurd (let f : ⊥ = cc in f)
start_of_cycled false cell.Blocked u e h g = absurd (let f : ⊥ = cc in f)
start_of_cycled false cell.Failed u e h g = absurd (let f : ⊥ = cc in f)

-- what stays isn't stopped
no_stop : (pinned : Bool) (s : CellState) (u : Target) → runs s ≡ true → is_somewhere u ≡ true → list_all (λ o. not (is_same_op op.Stop o)) (if pinned then [] else steps_of s u false) ≡ true
no_stop true s u h g = refl
no_stop false s target.Nowhere h g = cc
no_stop false cell.On target.Started h g = refl
no_stop false cell.On target.Promoted h g = refl
no_stop false cell.Promoted target.Started h g = refl
no_stop false cell.Promoted target.Promoted h g = refl
no_stop false cell.Off u h g = cc
no_stop false cell.Away u h g = cc
no_stop false cell.Unprobed u h g = cc
no_stop false cell.Blocked u h g = cc
no_stop false cell.Failed u h g = cc

pinned_stays : (stays up : Bool) (u : Target) → u ≡ (if stays then (if up then target.Promoted else target.Started) else target.Nowhere) → is_somewhere u ≡ true → stays ≡ true
pinned_stays true up u e h = refl
pinned_stays false up u e h = refuse (is_somewhere u) (rw e refl) h

module _ (t : Transition) (targets : Targets) (carries : Carries t targets) (sound : IsSound t targets) (r n : ℕ) (h : r < length t.cluster.leaves) (l : n < length t.cluster.nodes)
    (online : is_online t.cluster n t.planned_at ≡ true) (somewhere : is_somewhere (targets r n) ≡ true) where
  -- how the leaf comes to run there
  pub data How : Type 0 where
    by_start : IsNeeded t targets (Operation op.Start r n 0 role.Started) → How
    by_taking : MigratesHere t targets carries r n → How
    stays : may_be_running t.cluster r n t.planned_at ≡ true → is_unprobed_state (state t r n) ≡ false → (GetsStop t targets carries r n → ⊥)
        → (is_pinned t.cluster t.planned_at r ≡ true) ⊎ (runs (state t r n) ≡ true) → How

  not_both : MigratesHere t targets carries r n → may_be_running t.cluster r n t.planned_at ≡ true → {R : Type 0} → R
  not_both here on = refuse (may_be_running t.cluster r n t.planned_at) (here.migrates.nowhere_else n l here.migrates.elsewhere) on

  how_pinned : is_pinned t.cluster t.planned_at r ≡ true → How
  how_pinned pin =
      let all = pinned_stays _ (may_be_promoted t.cluster r n t.planned_at) (targets r n) (sound.pinned r n h l pin) somewhere in
      stays (later _ (may_be_running t.cluster r n t.planned_at) (sooner _ _ all)) (not-true (is_unprobed_state (state t r n)) (later _ _ all)) (λ g. refuse (is_pinned t.cluster t.planned_at r) (unpinned g) pin) (inl pin)
    where
      unpinned : GetsStop t targets carries r n → is_pinned t.cluster t.planned_at r ≡ false
      unpinned g = (is_step t.cluster t.planned_at targets r n op.Stop g).unpinned

  module _ (free : is_pinned t.cluster t.planned_at r ≡ false) where
    idle : runs (state t r n) ≡ false
        → (state t r n ≡ cell.Unprobed) ⊎ ((state t r n ≡ cell.Off) ⊎ (state t r n ≡ cell.Failed)) → How
    idle still is =
        by (start_or_migration t targets carries r n h l
        (inr (uncycled_idle t targets r n still, start_of_idle (is_pinned t.cluster t.planned_at r) (state t r n) (targets r n) free is somewhere)))
      where
        by : IsNeeded t targets (Operation op.Start r n 0 role.Started) ⊎ MigratesHere t targets carries r n → How
        by (inl needed) = by_start needed
        by (inr here) = by_taking here

    running : runs (state t r n) ≡ true → is_unprobed_state (state t r n) ≡ false → is_active (state t r n) ≡ true → How
    running runs_there probed may_be = by (cycled_or_not t targets carries r n h l free runs_there)
      where
        on : may_be_running t.cluster r n t.planned_at ≡ true
        on = running_may t targets carries r n may_be

        start : IsNeeded t targets (Operation op.Start r n 0 role.Started) ⊎ MigratesHere t targets carries r n → How
        start (inl needed) = by_start needed
        start (inr here) = not_both here on

        by : Cycled t.cluster t.planned_at targets r n ⊎ (Cycled t.cluster t.planned_at targets r n → ⊥) → How
        by (inl g) =
            start (start_or_migration t targets carries r n h l
            (inl (g, start_of_cycled (is_pinned t.cluster t.planned_at r) (state t r n) (targets r n) free runs_there somewhere)))
        by (inr uncycled) = stays on probed never (inr runs_there)
          where
            never : GetsStop t targets carries r n → ⊥
            never (inl g) = uncycled g.0
            never (inr g) =
                let other = each_passes (λ o. not (is_same_op op.Stop o)) _ op.Stop
                (no_stop (is_pinned t.cluster t.planned_at r) (state t r n) (targets r n) runs_there somewhere) g.1 in
                let f : ⊥ = cc in f

    how_free : How
    how_free = by (state t r n) refl
      where
        by : (s : CellState) → state t r n ≡ s → How
        by cell.Unprobed e = idle (rw e refl) (inl e)
        by cell.Off e = idle (rw e refl) (inr (inl e))
        by cell.Failed e = idle (rw e refl) (inr (inr e))
        by cell.On e = running (rw e refl) (rw e refl) (rw e refl)
        by cell.Promoted e = running (rw e refl) (rw e refl) (rw e refl)
        by cell.Away e = refuse (is_online t.cluster n t.planned_at) (says_of t.cluster r n t.planned_at cell.Away e) online
        by cell.Blocked e = refuse (is_pinned t.cluster t.planned_at r) free (blocked_pins t.cluster r n t.planned_at l (rw e refl))

  pub how : How
  how = by (is_pinned t.cluster t.planned_at r) refl
    where
      by : (b : Bool) → is_pinned t.cluster t.planned_at r ≡ b → How
      by true e = how_pinned e
      by false e = how_free e
