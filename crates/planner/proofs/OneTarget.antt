-- A leaf that isn't cloned has one target at most, so it migrates from one node to one other.
use Rattle.std.proofs.Common.{arith, ◌≡◌, ◌<◌, ◌≤◌, ◌==◌, ◌&&◌, ◌||◌, not, if◌then◌else◌, ℕ, Bool, true, false, List, Option, Some, None, length, get_or, count_by, refl, sym, ◌∙◌}
use Rattle.std.specs.List.{range_with_len, slice_get}
use Rattle.std.specs.Option.{option_map_or}
use Rattle.std.proofs.lemmas.Bool.{and_right, both_ways, eq-eqb, eqb-false, eqb-true, not_from_true}
use Rattle.std.proofs.lemmas.List.FromFn.{get_or-range_with_len, length-range_with_len}
use Rattle.std.proofs.lemmas.Option.{get_or_from_slice_get, slice_get_within}
use Rattle.lemmas.proofs.Booleans.{later, sooner, unless}
use Rattle.lemmas.proofs.Counts.{count_none, count_one_more}
use Rattle.cluster_types.specs.declared.cluster.Cluster.{Cluster}
use Rattle.cluster_types.specs.declared.journal.Action.TheVariants.{Operation}
use Rattle.cluster_types.specs.declared.journal.Event.{Event}
use Rattle.cluster_types.specs.declared.journal.Promotion.{Promotion}
use Rattle.cluster_types.specs.declared.leaf.Leaf.{Leaf}
use Rattle.cluster_types.specs.declared.leaf.Op.TheVariants as op
use Rattle.cluster_types.specs.declared.leaf.Role.TheVariants as role
use Rattle.cluster_types.specs.declared.placement.Placed.{Placed}
use Rattle.cluster_types.specs.declared.states.CellState.TheVariants as cell
use Rattle.cluster_types.specs.CellStates.{cell_state}
use Rattle.cluster_types.specs.Choice.{is_stopped_role}
use Rattle.cluster_types.specs.Failures.{is_fail_stopped}
use Rattle.cluster_types.specs.Fields.{copies, is_cloned, target_role_of}
use Rattle.cluster_types.specs.LawfulTables.{IsLawful}
use Rattle.cluster_types.specs.May.{may_be_running}
use Rattle.cluster_types.specs.NeededActions.{NeededBeforeMigration, Migrates, step}
use Rattle.cluster_types.specs.Pins.{is_pinned}
use Rattle.cluster_types.specs.Plans.{IsPlaced}
use Rattle.cluster_types.specs.Tables.{Targets, is_somewhere, targets_of}
use Rattle.cluster_types.specs.Valid.{IsValid}
use Rattle.cluster_types.proofs.NeededLaws.{bounds_of_first}
use Rattle.plan_laws.proofs.LawfulTable.{lawful}
use Rattle.plan_laws.proofs.CellStates.{says_of}
use Rattle.plan_laws.proofs.CellSteps.{is_known, is_step}

-- a test that passes at most once among the first numbers
abbrev elsewhere : (ℕ → Bool) → ℕ → ℕ → Bool
elsewhere p n i = p i && not (i == n)

not_here : (p : ℕ → Bool) (n : ℕ) → elsewhere p n n ≡ false
not_here p n = and_right (p n) (not (n == n)) (not_from_true (n == n) (eq-eqb n n refl))

one_of_few : (p : ℕ → Bool) (most n m : ℕ) → count_by p (range_with_len 0 most) ≤ 1 → n < most → m < most → p n ≡ true → p m ≡ true → n ≡ m
one_of_few p most n m few l k h g =
    let xs = range_with_len 0 most in
    let long : length xs ≡ most = length-range_with_len 0 most in
    let at_n : get_or xs n n ≡ n = get_or-range_with_len 0 most n n l ∙ omega arith in
    let at_m : get_or xs m m ≡ m = get_or-range_with_len 0 most m m k ∙ omega arith in
    let fewer : count_by (elsewhere p n) xs < count_by p xs =
    count_one_more (elsewhere p n) p (λ i q. sooner (p i) (not (i == n)) q) xs n n (omega (arith, long, l)) at_n (not_here p n) h in
    let none : elsewhere p n m ≡ false = count_none (elsewhere p n) xs (omega (arith, fewer, few)) m m (omega (arith, long, k)) at_m in
    sym (eqb-true m n (unless (p m) (m == n) g none))

module _ (c : Cluster) (es : List Event) (ps : List Promotion) (placed : Placed) (valid : IsValid c) (is : IsPlaced c es ps placed) where
  abbrev targets : Targets
  targets = targets_of placed.table

  one_copy : (r : ℕ) (v : Option Leaf) → slice_get c.leaves r ≡ v → option_map_or (λ (leaf : Leaf). leaf.cloned) v false ≡ false
      → option_map_or (λ (leaf : Leaf). leaf.copies) v 0 ≤ 1
  one_copy r (Some leaf) at h =
      let e = (valid.leaves leaf (r, slice_get_within c.leaves r leaf at, get_or_from_slice_get c.leaves r leaf leaf at)).copies h in
      omega arith
  one_copy r None at h = omega arith

  no_more : (b : Bool) (k : ℕ) → (if b then 0 else k) ≤ k
  no_more true k = omega arith
  no_more false k = omega arith

  one_target : (r n m : ℕ) → r < length c.leaves → is_cloned c r ≡ false → is_pinned c es r ≡ false → n < length c.nodes → m < length c.nodes
      → is_somewhere (targets r n) ≡ true → is_somewhere (targets r m) ≡ true → n ≡ m
  one_target r n m low plain managed l k h g =
      let law : IsLawful c es targets = lawful c es ps placed valid is in
      let most : count_by (λ i. is_somewhere (targets r i)) (range_with_len 0 (length c.nodes))
      ≤ (if is_stopped_role (target_role_of c r) || is_fail_stopped c r es then 0 else copies c r) = law.copies r low managed in
      let cap = no_more (is_stopped_role (target_role_of c r) || is_fail_stopped c r es) (copies c r) in
      let one = one_copy r (slice_get c.leaves r) refl plain in
      one_of_few (λ i. is_somewhere (targets r i)) (length c.nodes) n m (omega (arith, most, cap, one)) l k h g

  start_target : (r m : ℕ) → NeededBeforeMigration c es targets (Operation op.Start r m 0 role.Started) → is_somewhere (targets r m) ≡ true
  start_target r m (step _ _ _ h l g) =
      later (is_known (cell_state c r m es)) (is_somewhere (targets r m)) (is_step c es targets r m op.Start g).fitting

  pub one_goal : (r n m p q : ℕ) → Migrates c es targets r n m → Migrates c es targets r p q → m ≡ q
  one_goal r n m p q one other =
      let here = bounds_of_first c es targets op.Start r m 0 role.Started one.started in
      let there = bounds_of_first c es targets op.Start r q 0 role.Started other.started in
      one_target r m q here.0 one.uncloned one.not_pinned here.1 there.1 (start_target r m one.started) (start_target r q other.started)

  pub one_source : (r n m p q : ℕ) → Migrates c es targets r n m → Migrates c es targets r p q → n ≡ p
  one_source r n m p q one other = on (p == n) refl
    where
      on : (b : Bool) → (p == n) ≡ b → n ≡ p
      on true e = sym (eqb-true p n e)
      on false e =
          let there = bounds_of_first c es targets op.Stop r p 0 role.Started other.stopped in
          let running : may_be_running c r p es ≡ true = (says_of c r p es cell.On other.running).4 in
          absurd (both_ways (may_be_running c r p es) (one.nowhere_else p there.1 (eqb-false p n e)) running)
