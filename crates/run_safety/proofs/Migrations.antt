-- A leaf that migrates has no other target, nothing of it is promoted, and it may run on no third node.
use Rattle.std.proofs.Common.{arith, ◌≡◌, ◌≢◌, ◌<◌, ◌≤◌, ◌==◌, ◌&&◌, ℕ, Bool, true, false, List, length, slice_get, refl}
use Rattle.std.specs.Prelude.{Option, Some, None}
use Rattle.std.specs.Option.{option_map_or}
use Rattle.std.proofs.lemmas.Bool.{false_from_ne_true, ne_eqb}
use Rattle.std.proofs.lemmas.Option.{slice_get_within, get_or_from_slice_get}
use Rattle.cluster_types.specs.declared.cluster.Cluster.{Cluster}
use Rattle.cluster_types.specs.declared.journal.Action.TheVariants.{MigrateTo}
use Rattle.cluster_types.specs.declared.journal.Event.{Event}
use Rattle.cluster_types.specs.declared.leaf.Leaf.{Leaf}
use Rattle.cluster_types.specs.declared.leaf.Role.TheVariants as role
use Rattle.cluster_types.specs.declared.placement.Decision.TheVariants.{Place}
use Rattle.cluster_types.specs.declared.states.CellState.{CellState}
use Rattle.cluster_types.specs.declared.states.CellState.TheVariants as cell
use Rattle.cluster_types.specs.Choice.{cap_of}
use Rattle.cluster_types.specs.Fields.{copies, is_cloned, is_promotable}
use Rattle.cluster_types.specs.LawfulTables.{role_count}
use Rattle.cluster_types.specs.May.{may_be_running, is_left_promoted}
use Rattle.cluster_types.specs.NeededActions.{Migrates, sent}
use Rattle.cluster_types.specs.Steps.{Transition, journal}
use Rattle.cluster_types.specs.Tables.{Targets, is_somewhere}
use Rattle.cluster_types.specs.Valid.{IsValid}
use Rattle.plan_laws.proofs.CellStates.{says_of}
use Rattle.plan_laws.proofs.CellSteps.{is_promoted_state}
use Rattle.run_safety.proofs.Calm.{Calm}
use Rattle.run_safety.proofs.Carried.{Carries, IsSound}
use Rattle.run_safety.proofs.Copies.{cap_copies}
use Rattle.run_safety.proofs.Counting.{two_targets}
use Rattle.run_safety.proofs.Elsewhere.{stays_off}
use Rattle.run_safety.proofs.Needing.{state}
use Rattle.run_safety.proofs.Placing.{IsGiven, given}

-- an uncloned leaf has one copy
pub one_copy : (c : Cluster) (r : ℕ) → IsValid c → r < length c.leaves → is_cloned c r ≡ false → copies c r ≤ 1
one_copy c r valid low h = by (slice_get c.leaves r) refl h
  where
    by : (o : Option Leaf) → slice_get c.leaves r ≡ o → option_map_or (λ (leaf : Leaf). leaf.cloned) o false ≡ false → option_map_or (λ (leaf : Leaf). leaf.copies) o 0 ≤ 1
    by None e h = omega arith
    by (Some leaf) e h =
        let one = (valid.leaves leaf (r, slice_get_within c.leaves r leaf e, get_or_from_slice_get c.leaves r leaf leaf e)).copies h in
        omega (arith, one)

module _ (t : Transition) (targets : Targets) (carries : Carries t targets) (sound : IsSound t targets) (valid : IsValid t.cluster) where
  module _ (r n to : ℕ) (g : Migrates t.cluster t.planned_at targets r n to) where
    pub on_target : IsGiven t.cluster t.planned_at targets r to
    on_target = given t.cluster t.planned_at targets (MigrateTo r n to) (record { leaf = r; node = to }) (sent r n to g) refl

    -- it has no other target
    pub one_target : (m : ℕ) → m < length t.cluster.nodes → (m == to) ≡ false → is_somewhere (targets r m) ≡ false
    one_target m low other =
        false_from_ne_true (is_somewhere (targets r m)) (λ e.
        let two = two_targets (λ i. is_somewhere (targets r i)) to m (length t.cluster.nodes) on_target.node low on_target.somewhere e other in
        let capped : role_count t.cluster t.planned_at targets r role.Started ≤ cap_of t.cluster t.planned_at (Place r) = sound.lawful.copies r on_target.leaf on_target.free in
        let within = cap_copies t.cluster t.planned_at r in
        let one = one_copy t.cluster r valid on_target.leaf g.uncloned in
        let f : ⊥ = omega (arith, two, capped, within, one) in f)

    -- nothing of it was promoted
    pub never_promoted : (m : ℕ) → is_promoted_state (state t r m) ≡ false
    never_promoted m = by (state t r m) refl
      where
        unpromoted : (b : Bool) → b ≡ false → b && is_left_promoted t.cluster r m t.planned_at ≡ true → is_promoted_state (state t r m) ≡ false
        unpromoted false e h = cc
        unpromoted true e h = cc

        by : (z : CellState) → state t r m ≡ z → is_promoted_state (state t r m) ≡ false
        by cell.Promoted e = unpromoted (is_promotable t.cluster r) g.not_promotable (says_of t.cluster r m t.planned_at cell.Promoted e).4
        by cell.Away e = rw e refl
        by cell.Unprobed e = rw e refl
        by cell.Blocked e = rw e refl
        by cell.Failed e = rw e refl
        by cell.On e = rw e refl
        by cell.Off e = rw e refl

    -- it may run on no node but these two
    pub on_no_third : (since : List Event) → Calm t since → (m : ℕ) → m < length t.cluster.nodes → m ≢ n → m ≢ to → may_be_running t.cluster r m (journal t since) ≡ false
    on_no_third since calm m low not_source not_target =
        stays_off t targets carries r m (one_target m low (ne_eqb m to not_target)) (never_promoted m) (g.nowhere_else m low not_source) since calm
