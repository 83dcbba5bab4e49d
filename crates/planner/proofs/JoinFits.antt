-- Each join of a cluster fits: its cells its gates, and its positions its actions.
use Rattle.std.proofs.Common.{arith, ◌≡◌, ◌<◌, ◌==◌, if◌then◌else◌, ℕ, Bool, true, false, List, ◌++◌, Option, Some, None, length, Contains, refl, sym, ap, subst, ◌∙◌, inl, inr}
use Rattle.std.specs.List.{slice_get}
use Rattle.std.specs.Option.{option_map_or}
use Rattle.std.proofs.lemmas.Bool.{eqb-true}
use Rattle.std.proofs.lemmas.List.Elements.{Contains-append_cases, Contains-append_left, Contains-append_right}
use Rattle.cluster_types.specs.declared.cluster.Cluster.{Cluster}
use Rattle.cluster_types.specs.declared.journal.Action.{Action}
use Rattle.cluster_types.specs.Precedence.{LeafOnNode}
use Rattle.planner.specs.declared.precedence.sides.Join.{Join}
use Rattle.planner.specs.declared.precedence.sides.Side.{Side}
use Rattle.planner.specs.Inner.Gates.{key_at}
use Rattle.planner.specs.Joins.{side_key_of}
use Rattle.planner.specs.Inner.Places.{all_places, is_of_leaf, leaf_places, places_by, places_of, rule_places, side_leaf}
use Rattle.planner.specs.Inner.Rooms.{IsEven, rows_of, width_of}
use Rattle.planner.specs.ActionNames.{IsActionWithin}
use Rattle.planner.proofs.JoinGroups.{Fits}
use Rattle.planner.proofs.KeysRoom.{place_within}
use Rattle.planner.proofs.LeafKeys.{of_side}
use Rattle.lemmas.proofs.Members.{in_filter, in_range, of_filter, of_range}

module _ (c : Cluster) (actions : List Action) where
  leaf_within : (r i : ℕ) → Contains (leaf_places actions r) i → i < length actions
  leaf_within r i h =
      let below = of_range 0 (length actions) i (of_filter (λ i. option_map_or (is_of_leaf r) (slice_get actions i) false) (all_places actions) i h).among in
      omega arith

  pub rule_within : (r s i : ℕ) → Contains (rule_places actions r s) i → i < length actions
  rule_within r s i h = on (r == s) h
    where
      on : (b : Bool) → Contains (if b then leaf_places actions r else leaf_places actions r ++ leaf_places actions s) i → i < length actions
      on true h = leaf_within r i h
      on false h = elim (Contains-append_cases (leaf_places actions r) (leaf_places actions s) i h) [
        | inl k ↦ leaf_within r i k
        | inr k ↦ leaf_within s i k
      ]

  by_within : (u v : Option ℕ) (i : ℕ) → Contains (places_by actions u v) i → i < length actions
  by_within (Some r) (Some s) i h = rule_within r s i h
  by_within (Some r) None i h = let below = of_range 0 (length actions) i h in omega arith
  by_within None v i h = let below = of_range 0 (length actions) i h in omega arith

  -- a position at which an action of the leaf stands
  pub leaf_there : (r i : ℕ) (a : Action) → i < length actions → slice_get actions i ≡ Some a → is_of_leaf r a ≡ true → Contains (leaf_places actions r) i
  leaf_there r i a l at h =
      in_filter (λ i. option_map_or (is_of_leaf r) (slice_get actions i) false) (all_places actions) i (in_range 0 (length actions) i (omega arith) (omega arith))
      (ap (λ v. option_map_or (is_of_leaf r) v false) at ∙ h)

  pub one_there : (r s i : ℕ) → Contains (leaf_places actions r) i → Contains (rule_places actions r s) i
  one_there r s i h = on (r == s)
    where
      on : (b : Bool) → Contains (if b then leaf_places actions r else leaf_places actions r ++ leaf_places actions s) i
      on true = h
      on false = Contains-append_left (leaf_places actions r) (leaf_places actions s) i h

  pub other_there : (r s i : ℕ) → Contains (leaf_places actions s) i → Contains (rule_places actions r s) i
  other_there r s i h = on (r == s) refl
    where
      on : (b : Bool) → (r == s) ≡ b → Contains (if b then leaf_places actions r else leaf_places actions r ++ leaf_places actions s) i
      on true e = subst (λ v. Contains (leaf_places actions v) i) (sym (eqb-true r s e)) h
      on false e = Contains-append_right (leaf_places actions r) (leaf_places actions s) i h

  -- the action at a position at which a side has a cell
  module _ (s : Side) (i : ℕ) (k : LeafOnNode) (l : i < length actions) (h : key_at c actions s i ≡ Some k) where
    stands_on : (v : Option Action) → slice_get actions i ≡ v → option_map_or (side_key_of c actions s) v None ≡ Some k → (r : ℕ) → side_leaf s ≡ Some r
        → Contains (leaf_places actions r) i
    stands_on (Some a) at h r e = leaf_there r i a l at (of_side actions c a k s r e h)
    stands_on None at h r e = cc

    pub stands_there : (r : ℕ) → side_leaf s ≡ Some r → Contains (leaf_places actions r) i
    stands_there r e = stands_on (slice_get actions i) refl h r e

  module _ (inside : (a : Action) → Contains actions a → IsActionWithin c a) (j : Join) (even : IsEven c j) where
    from_on : (u v : Option ℕ) → side_leaf j.from ≡ u → side_leaf j.to ≡ v → (i : ℕ) (k : LeafOnNode) → i < length actions → key_at c actions j.from i ≡ Some k
        → Contains (places_by actions u v) i
    from_on (Some r) (Some s) e f i k l h = one_there r s i (stands_there j.from i k l h r e)
    from_on (Some r) None e f i k l h = in_range 0 (length actions) i (omega arith) (omega arith)
    from_on None v e f i k l h = in_range 0 (length actions) i (omega arith) (omega arith)

    to_on : (u v : Option ℕ) → side_leaf j.from ≡ u → side_leaf j.to ≡ v → (i : ℕ) (k : LeafOnNode) → i < length actions → key_at c actions j.to i ≡ Some k
        → Contains (places_by actions u v) i
    to_on (Some r) (Some s) e f i k l h = other_there r s i (stands_there j.to i k l h s f)
    to_on (Some r) None e f i k l h = in_range 0 (length actions) i (omega arith) (omega arith)
    to_on None v e f i k l h = in_range 0 (length actions) i (omega arith) (omega arith)

    pub join_fits : Fits (length actions) (rows_of c j.from) (width_of c j.from) (key_at c actions j.from) (key_at c actions j.to) (places_of actions j)
    join_fits = record {
      within = by_within (side_leaf j.from) (side_leaf j.to);
      from_fits = λ i a h. place_within c actions inside j.from i a h;
      to_fits = λ i a h.
          let k = place_within c actions inside j.to i a h in
          (subst (λ v. a.leaf < v) even.rows k.0, subst (λ v. a.node < v) even.width k.1);
      from_there = λ i a l h. from_on (side_leaf j.from) (side_leaf j.to) refl refl i a l h;
      to_there = λ i a l h. to_on (side_leaf j.from) (side_leaf j.to) refl refl i a l h;
    }
