-- The chains of an order each way, for one node.
use Rattle.std.proofs.Common.{arith, ◌≡◌, ◌<◌, ◌≤◌, ◌+◌, ◌*◌, ◌==◌, ◌++◌, inl, inr, if◌then◌else◌, ℕ, Bool, true, false, cond, Option, Some, None, List, [], ◌∷◌, length, Contains, All, refl, sym, ap, subst, ◌∙◌}
use Rattle.std.specs.List.{slice_get, sum_by}
use Rattle.std.specs.Option.{option_map_or}
use Rattle.std.proofs.lemmas.Bool.{eq-eqb, eqb-true}
use Rattle.std.proofs.lemmas.List.{append_assoc, length-append}
use Rattle.std.proofs.lemmas.List.Elements.{All-contains}
use Rattle.std.proofs.lemmas.List.Sums.{sum_by-cons}
use Rattle.edges.specs.declared.edge.Edge.{Edge}
use Rattle.cluster_types.specs.declared.journal.Action.{Action}
use Rattle.cluster_types.specs.declared.rules.Order.{Order}
use Rattle.cluster_types.specs.Precedence.{LeafOnNode, cell_of, step_cell}
use Rattle.planner.specs.Chains.{IsChained, changes_at, is_cell_on, InChain}
use Rattle.planner.specs.Inner.Gates.{chain_edges, last_gate}
use Rattle.planner.specs.Inner.Groups.{AddsGroup, IsGroup}
use Rattle.planner.specs.Joins.{in_leaf}
use Rattle.planner.proofs.Bound.{chain_few, weight}
use Rattle.planner.proofs.ChainGroups.{chain_group}
use Rattle.planner.proofs.Groups.{group_after, group_says}

-- an action changes cells of one leaf alone
apart_on : (r s : ℕ) (local : Bool) (m : ℕ) (u : Option LeafOnNode) → (r == s) ≡ false → is_cell_on m (in_leaf r local u) ≡ true → is_cell_on m (in_leaf s local u) ≡ true → ⊥
apart_on r s local m (Some a) d h k = on (a.leaf == r) (a.leaf == s) refl refl h k
  where
    on : (p q : Bool) → (a.leaf == r) ≡ p → (a.leaf == s) ≡ q → is_cell_on m (if p then cell_of 0 (if local then a.node else 0) else None) ≡ true
        → is_cell_on m (if q then cell_of 0 (if local then a.node else 0) else None) ≡ true → ⊥
    on true true e f h k =
        let same : r ≡ s = sym (eqb-true a.leaf r e) ∙ eqb-true a.leaf s f in
        let x : true ≡ false = sym (eq-eqb r s same) ∙ d in
        cc
    on true false e f h k = cc
    on false q e f h k = cc
apart_on r s local m None d h k = cc

apart_at : (r s : ℕ) (local : Bool) (m : ℕ) (v : Option Action) → (r == s) ≡ false → option_map_or (λ a. is_cell_on m (in_leaf r local (step_cell a))) v false ≡ true
    → option_map_or (λ a. is_cell_on m (in_leaf s local (step_cell a))) v false ≡ true → ⊥
apart_at r s local m (Some a) d h k = apart_on r s local m (step_cell a) d h k
apart_at r s local m None d h k = cc

differ_test : (r s : ℕ) → (r ≡ s → ⊥) → (r == s) ≡ false
differ_test r s d = on (r == s) refl
  where
    on : (b : Bool) → (r == s) ≡ b → b ≡ false
    on true e = absurd (d (eqb-true r s e))
    on false e = refl

one_weight : (a b : Bool) → cond {A = ℕ} a 2 0 + cond {A = ℕ} b 1 0 ≤ 3
one_weight true true = omega arith
one_weight true false = omega arith
one_weight false true = omega arith
one_weight false false = omega arith

two_weights : (a b : Bool) → (a ≡ true → b ≡ true → ⊥) → (cond {A = ℕ} a 2 0 + cond {A = ℕ} b 1 0) + (cond {A = ℕ} b 2 0 + cond {A = ℕ} a 1 0) ≤ 3
two_weights true true d = absurd (d refl refl)
two_weights true false d = omega arith
two_weights false true d = omega arith
two_weights false false d = omega arith

module _ (f t : ℕ → Bool) where
  one_sum : (places : List ℕ) → sum_by (weight f t) places ≤ 3 * length places
  one_sum [] = omega arith
  one_sum (p ∷ ps) =
      let s = sum_by-cons (weight f t) p ps in
      let w = one_weight (f p) (t p) in
      let r = one_sum ps in
      omega arith

  two_sums : ((i : ℕ) → f i ≡ true → t i ≡ true → ⊥) → (places : List ℕ) → sum_by (weight f t) places + sum_by (weight t f) places ≤ 3 * length places
  two_sums d [] = omega arith
  two_sums d (p ∷ ps) =
      let s = sum_by-cons (weight f t) p ps in
      let u = sum_by-cons (weight t f) p ps in
      let w = two_weights (f p) (t p) (d p) in
      let r = two_sums d ps in
      omega arith

module _ (actions : List Action) (o : Order) (m : ℕ) (places : List ℕ) (within : All (λ place. place < length actions) places) (from : ℕ) (enough : length actions ≤ from) where
  abbrev f : ℕ → Bool
  f = changes_at actions o.first o.local m

  abbrev t : ℕ → Bool
  t = changes_at actions o.then_leaf o.local m

  each_within : (i : ℕ) → Contains places i → i < length actions
  each_within i h = All-contains (λ place. place < length actions) places i within h

  abbrev Chained : ℕ → ℕ → Type 0
  Chained x y = IsChained actions o places m x y

  one_group : IsGroup (length actions) from (last_gate f t from places + 1) (chain_edges f t from places) (InChain f t places)
  one_group = chain_group (length actions) f t from places enough each_within

  pub adds_one : o.first ≡ o.then_leaf → (old new : List Edge) (upto : ℕ) → new ≡ old ++ chain_edges f t from places → upto ≡ last_gate f t from places + 1
      → AddsGroup (length actions) old new from upto (3 * length places) Chained
  adds_one same old new upto e u = record {
    more = chain_edges f t from places;
    list_is = e;
    group =
        subst (λ v. IsGroup (length actions) from v (chain_edges f t from places) Chained) (sym u)
        (group_says (length actions) from (last_gate f t from places + 1) (chain_edges f t from places) (InChain f t places) Chained (λ x y l k h. inl h)
        (λ x y l k h. elim h [ inl p ↦ p | inr p ↦ turned x y p ]) one_group);
    few = let l = chain_few f t from places in let s = one_sum f t places in omega arith;
  }
    where
      kinds : t ≡ f
      kinds = ap (λ r. changes_at actions r o.local m) (sym same)

      turned : (x y : ℕ) → InChain t f places x y → InChain f t places x y
      turned x y p = subst (λ v. InChain f v places x y) (sym kinds) (subst (λ v. InChain v f places x y) kinds p)

  pub adds_two : (o.first ≡ o.then_leaf → ⊥) → (old mid new : List Edge) (on upto : ℕ) → mid ≡ old ++ chain_edges f t from places
      → on ≡ last_gate f t from places + 1 → new ≡ mid ++ chain_edges t f on places → upto ≡ last_gate t f on places + 1
      → AddsGroup (length actions) old new from upto (3 * length places) Chained
  adds_two differ old mid new on upto e u g v =
      let one = subst (λ w. IsGroup (length actions) from w (chain_edges f t from places) (InChain f t places)) (sym u) one_group in
      let on_enough : length actions ≤ on = (let a = one.enough in let b = one.ordered in omega arith) in
      let two = subst (λ w. IsGroup (length actions) on w (chain_edges t f on places) (InChain t f places)) (sym v)
      (chain_group (length actions) t f on places on_enough each_within) in
      record {
        more = chain_edges f t from places ++ chain_edges t f on places;
        list_is = g ∙ (ap (λ w. w ++ chain_edges t f on places) e ∙ append_assoc old (chain_edges f t from places) (chain_edges t f on places));
        group = group_after (length actions) from on upto (chain_edges f t from places) (chain_edges t f on places) (InChain f t places) (InChain t f places) one two;
        few =
            let l = chain_few f t from places in
            let k = chain_few t f on places in
            let a = length-append (chain_edges f t from places) (chain_edges t f on places) in
            let apart : (o.first == o.then_leaf) ≡ false = differ_test o.first o.then_leaf differ in
            let s = two_sums f t (λ i h p. apart_at o.first o.then_leaf o.local m (slice_get actions i) apart h p) places in
            omega arith;
      }
