-- What the targets in the end keep of a table.
use Rattle.std.proofs.Common.{arith, ◌≡◌, ◌&&◌, ℕ, ◌<◌, Bool, true, false, List, length, refl, Contains, Any, slice_index_or}
use Rattle.std.proofs.lemmas.Bool.{and_from, and_parts, false_from_ne_true}
use Rattle.std.specs.List.{range_with_len, list_any}
use Rattle.std.proofs.lemmas.List.Folds.{Any-from_list_any}
use Rattle.std.proofs.lemmas.List.FromFn.{length-range_with_len, get_or-range_with_len}
use Rattle.cluster_types.specs.declared.cluster.Cluster.{Cluster}
use Rattle.cluster_types.specs.declared.journal.Event.{Event}
use Rattle.cluster_types.specs.declared.leaf.Role.{Role}
use Rattle.cluster_types.specs.declared.leaf.Role.TheVariants as role
use Rattle.cluster_types.specs.declared.placement.Target.{Target}
use Rattle.cluster_types.specs.declared.placement.Target.TheVariants as target
use Rattle.cluster_types.specs.declared.rules.Colocation.{Colocation}
use Rattle.cluster_types.specs.declared.rules.Order.{Order}
use Rattle.cluster_types.specs.declared.rules.OrderKind.TheVariants as kind
use Rattle.cluster_types.specs.Choice.{is_mandatory}
use Rattle.cluster_types.specs.Decisions.{decision_of}
use Rattle.cluster_types.specs.Held.{AreTargets, Held, by_order, by_colocation, by_place, IsFinalTarget, OrderCanHoldBack, ColocationCanHoldBack}
use Rattle.cluster_types.specs.Pins.{is_pinned}
use Rattle.cluster_types.specs.Tables.{Targets, holds_role, is_in_scope, target_holds}
use Rattle.cluster_types.specs.Valid.{IsValid}
use Rattle.cluster_types.proofs.TableCells.{promoted_somewhere}
use Rattle.loops.proofs.FromValid.{valid_join, valid_order}
use Rattle.lemmas.proofs.Searches.{passes_by}
use Rattle.cluster_types.specs.Precedence.{is_giving, role_given}

module _ (c : Cluster) (es : List Event) (table : Targets) where
  module _ (r n : ℕ) where
    one_target : (t u : Target) → IsFinalTarget c es table r n t → IsFinalTarget c es table r n u → t ≡ u
    one_target target.Nowhere target.Nowhere h k = refl
    one_target target.Nowhere target.Started h k = absurd (k.1 (h k.0))
    one_target target.Nowhere target.Promoted h k = absurd (k.1 (by_place r n k.0 (h (promoted_somewhere (table r n) k.0))))
    one_target target.Started target.Nowhere h k = absurd (h.1 (k h.0))
    one_target target.Started target.Started h k = refl
    one_target target.Started target.Promoted h k = absurd (k.1 (h.2 k.0))
    one_target target.Promoted target.Nowhere h k = absurd (h.1 (by_place r n h.0 (k (promoted_somewhere (table r n) h.0))))
    one_target target.Promoted target.Started h k = absurd (h.1 (k.2 h.0))
    one_target target.Promoted target.Promoted h k = refl

    -- a role that was chosen and isn't a target is held back
    back_on : (t : Target) (given : Role) → IsFinalTarget c es table r n t → holds_role table r given n ≡ true → target_holds t given ≡ false
        → Held c es table (decision_of r given) n
    back_on target.Nowhere role.Started k h f = k h
    back_on target.Nowhere role.Promoted k h f = by_place r n h (k (promoted_somewhere (table r n) h))
    back_on target.Started role.Started k h f = cc
    back_on target.Started role.Promoted k h f = k.2 h
    back_on target.Promoted role.Started k h f = cc
    back_on target.Promoted role.Promoted k h f = cc

    -- a role of a target was chosen, and isn't held back
    chosen_on : (t : Target) (given : Role) → IsFinalTarget c es table r n t → target_holds t given ≡ true → holds_role table r given n ≡ true
    chosen_on target.Nowhere role.Started k h = cc
    chosen_on target.Nowhere role.Promoted k h = cc
    chosen_on target.Started role.Started k h = k.0
    chosen_on target.Started role.Promoted k h = cc
    chosen_on target.Promoted role.Started k h = promoted_somewhere (table r n) k.0
    chosen_on target.Promoted role.Promoted k h = k.0

    free_on : (t : Target) (given : Role) → IsFinalTarget c es table r n t → target_holds t given ≡ true → Held c es table (decision_of r given) n → ⊥
    free_on target.Nowhere role.Started k h b = cc
    free_on target.Nowhere role.Promoted k h b = cc
    free_on target.Started role.Started k h b = k.1 b
    free_on target.Started role.Promoted k h b = cc
    free_on target.Promoted role.Started k h b = k.1 (by_place r n k.0 b)
    free_on target.Promoted role.Promoted k h b = k.1 b

  module _ (targets : Targets) where
    pub back : (r n : ℕ) (given : Role) → IsFinalTarget c es table r n (targets r n) → holds_role table r given n ≡ true → holds_role targets r given n ≡ false → Held c es table (decision_of r given) n
    back r n role.Started k h f = back_on r n (targets r n) role.Started k h f
    back r n role.Promoted k h f = back_on r n (targets r n) role.Promoted k h f

    pub chosen : (r n : ℕ) (given : Role) → IsFinalTarget c es table r n (targets r n) → holds_role targets r given n ≡ true → holds_role table r given n ≡ true
    chosen r n role.Started k h = chosen_on r n (targets r n) role.Started k h
    chosen r n role.Promoted k h = chosen_on r n (targets r n) role.Promoted k h

    pub free : (r n : ℕ) (given : Role) → IsFinalTarget c es table r n (targets r n) → holds_role targets r given n ≡ true → Held c es table (decision_of r given) n → ⊥
    free r n role.Started k h b = free_on r n (targets r n) role.Started k h b
    free r n role.Promoted k h b = free_on r n (targets r n) role.Promoted k h b

  pub targets_one : (one other : Targets) → AreTargets c es table one → AreTargets c es table other
      → (r n : ℕ) → r < length c.leaves → n < length c.nodes → one r n ≡ other r n
  targets_one one other a b r n low low' = one_target r n (one r n) (other r n) (a r n low low') (b r n low low')

  module _ (targets : Targets) (valid : IsValid c) (are : AreTargets c es table targets) where
    pub with_primaries : (col : Colocation) (n : ℕ) → Contains c.colocations col → is_mandatory col ≡ true → is_pinned c es col.dependent ≡ false → n < length c.nodes
        → holds_role targets col.dependent col.dependent_role n ≡ true → holds_role targets col.primary col.primary_role n ≡ true
    with_primaries col n present mandatory managed within h =
        go (holds_role targets col.primary col.primary_role n) refl
      where
        go : (b : Bool) → holds_role targets col.primary col.primary_role n ≡ b → holds_role targets col.primary col.primary_role n ≡ true
        go true e = e
        go false e =
            let ends = valid_join c valid.colocations col present in
            let kept = are col.dependent n ends.dependent within in
            let may : ColocationCanHoldBack c es table col n = record {
              present = present;
              mandatory = mandatory;
              not_pinned = managed;
              within = within;
              chosen = chosen targets col.dependent n col.dependent_role kept h;
            } in
            absurd (free targets col.dependent n col.dependent_role kept h
            (by_colocation col n may (λ was. back targets col.primary n col.primary_role (are col.primary n ends.primary within) was e)))

    module _ (o : Order) (n : ℕ) (first : Role) where
      abbrev pub there : ℕ → Bool
      there m = is_in_scope o n m && holds_role targets o.first first m

      abbrev pub all : List ℕ
      all = range_with_len 0 (length c.nodes)

      found : Any (λ m. there m ≡ true) all → (m : ℕ) × (m < length c.nodes) × (is_in_scope o n m ≡ true) × (holds_role targets o.first first m ≡ true)
      found (k, m, lt, at, e) =
          let long = length-range_with_len 0 (length c.nodes) in
          let is = get_or-range_with_len 0 (length c.nodes) k m (omega arith) in
          let both = and_parts (is_in_scope o n m) (holds_role targets o.first first m) e in
          (m, omega arith, both.0, both.1)

      missing : list_any there all ≡ false → (m : ℕ) → m < length c.nodes → is_in_scope o n m ≡ true → holds_role targets o.first first m ≡ false
      missing e m lt scope =
          false_from_ne_true (holds_role targets o.first first m) (λ held.
          let long = length-range_with_len 0 (length c.nodes) in
          let is : slice_index_or all m m ≡ m = let f = get_or-range_with_len 0 (length c.nodes) m m lt in omega (arith, f) in
          let some = passes_by there all m (m, omega arith, is) (and_from (is_in_scope o n m) (holds_role targets o.first first m) scope held) in cc)

    pub after_firsts : (o : Order) (n : ℕ) → Contains c.orders o → o.kind ≡ kind.Mandatory → is_giving o.first_op ≡ true → is_giving o.then_op ≡ true
        → is_pinned c es o.then_leaf ≡ false → n < length c.nodes → holds_role targets o.then_leaf (role_given o.then_op) n ≡ true
        → (m : ℕ) × (m < length c.nodes) × (is_in_scope o n m ≡ true) × (holds_role targets o.first (role_given o.first_op) m ≡ true)
    after_firsts o n present mandatory gives then_gives managed within h = go (list_any (there o n (role_given o.first_op)) (all o n (role_given o.first_op))) refl
      where
        go : (b : Bool) → list_any (there o n (role_given o.first_op)) (all o n (role_given o.first_op)) ≡ b → (m : ℕ) × (m < length c.nodes) × (is_in_scope o n m ≡ true) × (holds_role targets o.first (role_given o.first_op) m ≡ true)
        go true e = found o n (role_given o.first_op) (Any-from_list_any (there o n (role_given o.first_op)) (all o n (role_given o.first_op)) e)
        go false e =
            let words = valid_order c valid.orders o present in
            let kept = are o.then_leaf n words.later within in
            let may : OrderCanHoldBack c es table o n = record {
              present = present;
              mandatory = mandatory;
              first_gives = gives;
              then_gives = then_gives;
              not_pinned = managed;
              within = within;
              chosen = chosen targets o.then_leaf n (role_given o.then_op) kept h;
            } in
            absurd (free targets o.then_leaf n (role_given o.then_op) kept h
            (by_order o n may (λ m lt scope was. back targets o.first m (role_given o.first_op) (are o.first m words.first lt) was (missing o n (role_given o.first_op) e m lt scope))))
