-- The chains of an order of the kind Serialize say what it says.
use Rattle.std.proofs.Common.{◌≡◌, ◌<◌, ◌==◌, ◌&&◌, ◌||◌, ◌⊎◌, inl, inr, if◌then◌else◌, ℕ, Bool, true, false, Option, Some, None, List, length, Contains, refl, sym, ap, ◌∙◌}
use Rattle.std.specs.List.{slice_get}
use Rattle.std.specs.Option.{option_map_or}
use Rattle.std.proofs.lemmas.Bool.{and_from, and_parts, eq-eqb, eqb-true, or_cases}
use Rattle.lemmas.proofs.Booleans.{number_itself}
use Rattle.cluster_types.specs.declared.journal.Action.{Action}
use Rattle.cluster_types.specs.declared.rules.Order.{Order}
use Rattle.cluster_types.specs.Precedence.{LeafOnNode, both, cell_of, step_cell, is_across, is_one_cell, is_serialize, is_serialized}
use Rattle.planner.specs.Chains.{ArePlacesInOrder, IsChained, changes_at, earlier_of, is_earlier_at, is_cell_on, InChain}
use Rattle.planner.specs.Joins.{in_leaf}
use Rattle.planner.proofs.RuleJoins.{ordered_joined}
use Rattle.planner.proofs.ChainOrder.{comes_stands, stands_comes}

-- two cells of a side by node are one where they are on one node
pub record OnOne (u v : Option LeafOnNode) : Type 0 where
  pub node : ℕ
  pub one : is_cell_on node u ≡ true
  pub other : is_cell_on node v ≡ true

on_one : (u v : Option LeafOnNode) → both is_one_cell u v ≡ true → OnOne u v
on_one (Some a) (Some b) h =
    let (p, q) = and_parts (a.leaf == b.leaf) (a.node == b.node) h in
    record { node = b.node; one = q; other = number_itself b.node }
on_one (Some a) None h = cc
on_one None v h = cc

-- the cells of one leaf by node have leaf 0
zero_leaf : (r : ℕ) (local : Bool) (u : Option LeafOnNode) (a : LeafOnNode) → in_leaf r local u ≡ Some a → a.leaf ≡ 0
zero_leaf r local (Some b) a h = on (b.leaf == r) h
  where
    on : (p : Bool) → (if p then cell_of 0 (if local then b.node else 0) else None) ≡ Some a → a.leaf ≡ 0
    on true e = (let f : record { leaf = 0; node = (if local then b.node else 0) } ≡ a = cc in sym (ap (λ (v : LeafOnNode). v.leaf) f))
    on false e = cc
zero_leaf r local None a h = cc

one_if_on : (r s : ℕ) (local : Bool) (u v : Option LeafOnNode) (m : ℕ) → is_cell_on m (in_leaf r local u) ≡ true → is_cell_on m (in_leaf s local v) ≡ true
    → both is_one_cell (in_leaf r local u) (in_leaf s local v) ≡ true
one_if_on r s local u v m h k = on (in_leaf r local u) (in_leaf s local v) refl refl h k
  where
    on : (p q : Option LeafOnNode) → in_leaf r local u ≡ p → in_leaf s local v ≡ q → is_cell_on m p ≡ true → is_cell_on m q ≡ true → both is_one_cell p q ≡ true
    on (Some a) (Some b) e f h k =
        let la = zero_leaf r local u a e in
        let lb = zero_leaf s local v b f in
        let leaf : (a.leaf == b.leaf) ≡ true = eq-eqb a.leaf b.leaf (la ∙ sym lb) in
        let node : (a.node == b.node) ≡ true = eq-eqb a.node b.node (eqb-true a.node m h ∙ sym (eqb-true b.node m k)) in
        and_from (a.leaf == b.leaf) (a.node == b.node) leaf node
    on (Some a) None e f h k = cc
    on None q e f h k = cc

module _ (actions : List Action) (is_earlier : Action → Action → Bool) (strict : (x y : ℕ) → is_earlier_at actions is_earlier x y ≡ true
    → is_earlier_at actions is_earlier y x ≡ true → ⊥) (o : Order) (places : List ℕ) (ordered : ArePlacesInOrder actions is_earlier o places)
    (x y : ℕ) (a b : Action) (within_x : x < length actions) (within_y : y < length actions) (at_x : slice_get actions x ≡ Some a) (at_y : slice_get actions y ≡ Some b) where
  abbrev Comes : ℕ → ℕ → Type 0
  Comes i j = is_earlier_at actions is_earlier i j ≡ true

  changes_is : (r m i : ℕ) (e : Action) → slice_get actions i ≡ Some e → changes_at actions r o.local m i ≡ is_cell_on m (in_leaf r o.local (step_cell e))
  changes_is r m i e at = ap (λ v. option_map_or (λ e. is_cell_on m (in_leaf r o.local (step_cell e))) v false) at

  comes_is : is_earlier_at actions is_earlier x y ≡ is_earlier a b
  comes_is = ap (λ v. earlier_of actions is_earlier v (slice_get actions y)) at_x ∙ ap (λ v. earlier_of actions is_earlier (Some a) v) at_y

  -- an action across another: both change cells of one node, or of any
  across_is : (e f : Action) → is_across o e f ≡ both is_one_cell (in_leaf o.first o.local (step_cell e)) (in_leaf o.then_leaf o.local (step_cell f))
  across_is e f = ordered_joined o o.first o.then_leaf (step_cell e) (step_cell f)

  earlier_by : (f t : ℕ → Bool) → InChain f t places x y → is_earlier a b ≡ true
  earlier_by f t h = sym comes_is ∙ stands_comes Comes strict x y places ordered.in_order h.before

  one_of : (p q : Bool) → (p ≡ true) ⊎ (q ≡ true) → p || q ≡ true
  one_of true q h = refl
  one_of false q (inl h) = cc
  one_of false q (inr h) = h

  both_ways : (m : ℕ) → IsChained actions o places m x y → (is_across o a b ≡ true) ⊎ (is_across o b a ≡ true)
  both_ways m (inl h) =
      inl (across_is a b ∙ one_if_on o.first o.then_leaf o.local (step_cell a) (step_cell b) m (sym (changes_is o.first m x a at_x) ∙ h.first)
      (sym (changes_is o.then_leaf m y b at_y) ∙ h.then_is))
  both_ways m (inr h) =
      inr (across_is b a ∙ one_if_on o.first o.then_leaf o.local (step_cell b) (step_cell a) m (sym (changes_is o.first m y b at_y) ∙ h.then_is)
      (sym (changes_is o.then_leaf m x a at_x) ∙ h.first))

  earlier_if : (m : ℕ) → IsChained actions o places m x y → is_earlier a b ≡ true
  earlier_if m (inl h) = earlier_by _ _ h
  earlier_if m (inr h) = earlier_by _ _ h

  pub chained_says : is_serialize o.kind ≡ true → (m : ℕ) → IsChained actions o places m x y → is_serialized is_earlier o a b ≡ true
  chained_says kind m h =
      and_from (is_serialize o.kind && (is_across o a b || is_across o b a)) (is_earlier a b)
      (and_from (is_serialize o.kind) (is_across o a b || is_across o b a) kind (one_of (is_across o a b) (is_across o b a) (both_ways m h))) (earlier_if m h)

  comes_too : is_earlier a b ≡ true → Comes x y
  comes_too h = comes_is ∙ h

  chain_of : (m : ℕ) (f t : ℕ → Bool) → f x ≡ true → t y ≡ true → Contains places x → Contains places y → is_earlier a b ≡ true → InChain f t places x y
  chain_of m f t h k c d e = record { first = h; then_is = k; before = comes_stands Comes strict x y places ordered.in_order c d (comes_too e) }

  pub record Chained : Type 0 where
    pub node : ℕ
    pub chained : IsChained actions o places node x y

  by_across : is_across o a b ≡ true → is_earlier a b ≡ true → Chained
  by_across h e =
      let n = on_one _ _ (sym (across_is a b) ∙ h) in
      let p = changes_is o.first n.node x a at_x ∙ n.one in
      let q = changes_is o.then_leaf n.node y b at_y ∙ n.other in
      record {
        node = n.node;
        chained = inl (chain_of n.node _ _ p q (ordered.first_there n.node x within_x p) (ordered.then_there n.node y within_y q) e);
      }

  by_back : is_across o b a ≡ true → is_earlier a b ≡ true → Chained
  by_back h e =
      let n = on_one _ _ (sym (across_is b a) ∙ h) in
      let p = changes_is o.first n.node y b at_y ∙ n.one in
      let q = changes_is o.then_leaf n.node x a at_x ∙ n.other in
      record {
        node = n.node;
        chained = inr (chain_of n.node _ _ q p (ordered.then_there n.node x within_x q) (ordered.first_there n.node y within_y p) e);
      }

  pub says_chained : is_serialized is_earlier o a b ≡ true → Chained
  says_chained h =
      let (k, e) = and_parts (is_serialize o.kind && (is_across o a b || is_across o b a)) (is_earlier a b) h in
      let (kind, across) = and_parts (is_serialize o.kind) (is_across o a b || is_across o b a) k in
      elim (or_cases (is_across o a b) (is_across o b a) across) [
        | inl p ↦ by_across p e
        | inr q ↦ by_back q e
      ]
