-- The chains of a local order, node by node.
use Rattle.std.proofs.Common.{arith, ◌≡◌, ◌+◌, ◌==◌, if◌then◌else◌, nat_lt, ℕ, Bool, true, false, cond, Option, Some, None, List, [], ◌∷◌, filter, Contains, refl, sym, subst}
use Rattle.std.specs.List.{slice_get}
use Rattle.std.specs.Option.{option_map_or}
use Rattle.std.proofs.lemmas.Bool.{eqb-true}
use Rattle.cluster_types.specs.declared.journal.Action.{Action}
use Rattle.cluster_types.specs.Precedence.{LeafOnNode, cell_of, step_cell}
use Rattle.planner.specs.Chains.{changes_at, is_cell_on, InChain, StandsBefore, here, later}
use Rattle.planner.specs.Inner.Chains.{changed_node, is_at, changed_node_at}
use Rattle.planner.specs.Joins.{in_leaf}
use Rattle.lemmas.proofs.Members.{in_filter, of_filter}

-- of two that pass a test the one stands before the other in a list just where it does among those that pass
module _ (p : ℕ → Bool) (x y : ℕ) where
  stands_in_all : (places : List ℕ) → StandsBefore x y (filter p places) → StandsBefore x y places
  stands_in_all [] h = h
  stands_in_all (q ∷ qs) h = on (p q) h (stands_in_all qs)
    where
      split : (w : List ℕ) → w ≡ q ∷ filter p qs → StandsBefore x y w → (StandsBefore x y (filter p qs) → StandsBefore x y qs) → StandsBefore x y (q ∷ qs)
      split _ e (here ps c) f =
          let head : x ≡ q = cc in
          let tail : ps ≡ filter p qs = cc in
          subst (λ v. StandsBefore x y (v ∷ qs)) head (here qs (of_filter p qs y (subst (λ v. Contains v y) tail c)).among)
      split _ e (later r ps b) f =
          let tail : ps ≡ filter p qs = cc in
          later q qs (f (subst (λ v. StandsBefore x y v) tail b))

      on : (b : Bool) → StandsBefore x y (cond b (q ∷ filter p qs) (filter p qs)) → (StandsBefore x y (filter p qs) → StandsBefore x y qs) → StandsBefore x y (q ∷ qs)
      on true h f = split (q ∷ filter p qs) refl h f
      on false h f = later q qs (f h)

  stands_in_some : (places : List ℕ) → p x ≡ true → p y ≡ true → StandsBefore x y places → StandsBefore x y (filter p places)
  stands_in_some _ h k (here ps c) = on (p x) h
    where
      on : (b : Bool) → b ≡ true → StandsBefore x y (cond b (x ∷ filter p ps) (filter p ps))
      on true e = here (filter p ps) (in_filter p ps y c k)
      on false e = cc
  stands_in_some _ h k (later q ps b) = on (p q) (stands_in_some ps h k b)
    where
      on : (d : Bool) → StandsBefore x y (filter p ps) → StandsBefore x y (cond d (q ∷ filter p ps) (filter p ps))
      on true s = later q (filter p ps) s
      on false s = s

  pub chain_in_all : (f t : ℕ → Bool) (places : List ℕ) → InChain f t (filter p places) x y → InChain f t places x y
  chain_in_all f t places h = record { first = h.first; then_is = h.then_is; before = stands_in_all places h.before }

  pub chain_in_some : (f t : ℕ → Bool) (places : List ℕ) → ((i : ℕ) → f i ≡ true → p i ≡ true) → ((i : ℕ) → t i ≡ true → p i ≡ true)
      → InChain f t places x y → InChain f t (filter p places) x y
  chain_in_some f t places u v h =
      record { first = h.first; then_is = h.then_is; before = stands_in_some places (u x h.first) (v y h.then_is) h.before }

-- what changes a cell of the leaf on a node is at the node
changes_on : (r m : ℕ) (u : Option LeafOnNode) → is_cell_on m (in_leaf r true u) ≡ true → is_at m (changed_node u) ≡ true
changes_on r m (Some a) h = on (a.leaf == r) h
  where
    on : (b : Bool) → is_cell_on m (if b then cell_of 0 a.node else None) ≡ true → (a.node == m) ≡ true
    on true e = e
    on false e = cc
changes_on r m None h = cc

pub changes_node : (actions : List Action) (r m i : ℕ) → changes_at actions r true m i ≡ true → is_at m (changed_node_at actions i) ≡ true
changes_node actions r m i h = on (slice_get actions i) h
  where
    on : (v : Option Action) → option_map_or (λ a. is_cell_on m (in_leaf r true (step_cell a))) v false ≡ true
        → is_at m (option_map_or (λ a. changed_node (step_cell a)) v None) ≡ true
    on (Some a) e = changes_on r m (step_cell a) e
    on None e = cc

-- chains for all nodes are for node 0
zero_on : (r m : ℕ) (u : Option LeafOnNode) → is_cell_on m (in_leaf r false u) ≡ true → m ≡ 0
zero_on r m (Some a) h = on (a.leaf == r) h
  where
    on : (b : Bool) → is_cell_on m (if b then cell_of 0 0 else None) ≡ true → m ≡ 0
    on true e = sym (eqb-true 0 m e)
    on false e = cc
zero_on r m None h = cc

pub changes_zero : (actions : List Action) (r m i : ℕ) → changes_at actions r false m i ≡ true → m ≡ 0
changes_zero actions r m i h = on (slice_get actions i) h
  where
    on : (v : Option Action) → option_map_or (λ a. is_cell_on m (in_leaf r false (step_cell a))) v false ≡ true → m ≡ 0
    on (Some a) e = zero_on r m (step_cell a) e
    on None e = cc

-- how many positions are at the first so many nodes
abbrev pub is_below : ℕ → Option ℕ → Bool
is_below m (Some n) = nat_lt n m
is_below m None = false

below_or_at : (m n : ℕ) → cond {A = ℕ} (nat_lt n m) 1 0 + cond {A = ℕ} (n == m) 1 0 ≡ cond {A = ℕ} (nat_lt n (m + 1)) 1 0
below_or_at m n = grind arith

pub one_more_below : (m : ℕ) (v : Option ℕ) → cond {A = ℕ} (is_below m v) 1 0 + cond {A = ℕ} (is_at m v) 1 0 ≡ cond {A = ℕ} (is_below (m + 1) v) 1 0
one_more_below m (Some n) = below_or_at m n
one_more_below m None = refl
