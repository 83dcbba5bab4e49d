-- The pass over the orders, order by order and rank by rank.
use Rattle.std.proofs.Common.{arith, ◌≡◌, ◌<◌, ◌≤◌, ◌+◌, ◌*◌, ℕ, suc, Bool, true, List, [], ◌∷◌, ◌++◌, length, take, filter, cond, slice_index_or, refl, sym, ◌∙◌, ap}
use Rattle.std.proofs.Math.Nat.{mul-le-mul_right}
use Rattle.std.proofs.lemmas.List.{take_more}
use Rattle.std.proofs.lemmas.List.Elements.{filter-append}
use Rattle.cluster_types.specs.declared.cluster.Cluster.{Cluster}
use Rattle.cluster_types.specs.declared.journal.Event.{Event}
use Rattle.cluster_types.specs.declared.rules.Order.{Order}
use Rattle.cluster_types.specs.Tables.{Targets}
use Rattle.planner.specs.CycledCells.{MarkedCells, with_order, with_orders}
use Rattle.planner.specs.Inner.Levels.{at_level, below_level}
use Rattle.planner.proofs.FallingLevels.{orders_joined}

-- a leaf that is there has room for its row
pub room_for : (leaves nodes r : ℕ) → r < leaves → r * nodes + nodes ≤ leaves * nodes
room_for leaves nodes r lt =
    let up : suc r * nodes ≤ leaves * nodes = mul-le-mul_right nodes lt in
    let one : suc r * nodes ≡ r * nodes + nodes = omega arith in
    omega arith

one_kept : {X : Type 0} (p : X → Bool) (x : X) (b : Bool) → p x ≡ b → b ≡ true → filter p (x ∷ []) ≡ x ∷ []
one_kept p x b h t = ap (λ (k : Bool). cond k (x ∷ []) []) (h ∙ t)

pub filter_one_more : {X : Type 0} (p : X → Bool) (xs : List X) (i : ℕ) (x : X) → i < length xs → x ≡ slice_index_or xs i x → p x ≡ true
    → filter p (take (i + 1) xs) ≡ filter p (take i xs) ++ x ∷ []
filter_one_more p xs i x lt is passes =
    let t : take (i + 1) xs ≡ take i xs ++ x ∷ [] = rw (← is) at (take_more xs i x lt) in
    ap (filter p) t ∙ filter-append p (take i xs) (x ∷ []) ∙ ap (λ ys. filter p (take i xs) ++ ys) (one_kept p x (p x) refl passes)

module _ (c : Cluster) (es : List Event) (targets : Targets) where
  -- one order more
  pub orders_more : (p : Order → Bool) (xs : List Order) (i : ℕ) (o : Order) (first before after : MarkedCells) → i < length xs
      → o ≡ slice_index_or xs i o → p o ≡ true
      → before ≡ with_orders c es targets first (filter p (take i xs))
      → after ≡ with_order c es targets before o
      → after ≡ with_orders c es targets first (filter p (take (i + 1) xs))
  orders_more p xs i o first before after lt is passes was step =
      step ∙ ap (λ (m : MarkedCells). with_order c es targets m o) was
      ∙ sym (orders_joined c es targets (filter p (take i xs)) (o ∷ []) first)
      ∙ ap (with_orders c es targets first) (sym (filter_one_more p xs i o lt is passes))

  -- one rank less
  pub levels_less : (left k : ℕ) (before after last : MarkedCells) → left ≡ suc k → after ≡ with_orders c es targets before (at_level c k)
      → with_orders c es targets before (below_level c left) ≡ last
      → with_orders c es targets after (below_level c k) ≡ last
  levels_less left k before after last e step was =
      ap (λ (m : MarkedCells). with_orders c es targets m (below_level c k)) step
      ∙ sym (orders_joined c es targets (at_level c k) (below_level c k) before)
      ∙ ap (λ j. with_orders c es targets before (below_level c j)) (sym e)
      ∙ was
