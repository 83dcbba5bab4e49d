-- The orders rank by rank are all that may have cells cycled, and none comes back to a first.
use Rattle.std.proofs.Common.{arith, ◌≡◌, ◌≢◌, ◌<◌, ℕ, suc, zero, true, List, [], ◌∷◌, ◌++◌, refl, ap, inl, inr, Contains}
use Rattle.std.proofs.lemmas.Bool.{cases_lt, eq-eqb, eqb-true, and_from}
use Rattle.std.proofs.lemmas.List.Elements.{Contains-append_cases, Contains-append_left, Contains-append_right}
use Rattle.lemmas.proofs.Booleans.{later, sooner}
use Rattle.cluster_types.specs.declared.cluster.Cluster.{Cluster}
use Rattle.cluster_types.specs.declared.journal.Event.{Event}
use Rattle.cluster_types.specs.declared.leaf.Op.TheVariants.{Stop}
use Rattle.cluster_types.specs.declared.rules.Order.{Order}
use Rattle.cluster_types.specs.Numbers.{StepsHaveNoLoop, rank, step_of}
use Rattle.cluster_types.specs.Tables.{Targets}
use Rattle.loops.specs.FirstLoops.{AllOrder}
use Rattle.lemmas.proofs.Members.{at_head, in_filter, in_none, in_rest, of_filter}
use Rattle.planner.specs.CycledCells.{AreCycling, MarkedCells, NoneComesBack, is_cycling, with_order, with_orders}
use Rattle.planner.specs.Inner.Levels.{at_level, below_level, is_at_level}
use Rattle.planner.proofs.FallingOrders.{then_stops_first}

-- one list of orders after another
pub orders_joined : (c : Cluster) (es : List Event) (targets : Targets) (os ps : List Order) (marks : MarkedCells)
    → with_orders c es targets marks (os ++ ps) ≡ with_orders c es targets (with_orders c es targets marks os) ps
orders_joined c es targets [] ps marks = refl
orders_joined c es targets (o ∷ os) ps marks = orders_joined c es targets os ps (with_order c es targets marks o)

-- where no then is a first, and then where none of the others comes back to these
pub apart_joined : (os ps : List Order) → ((o p : Order) → Contains os o → Contains (os ++ ps) p → p.then_leaf ≢ o.first) → NoneComesBack ps
    → NoneComesBack (os ++ ps)
apart_joined [] ps apart rest = rest
apart_joined (o ∷ os) ps apart rest = (
  λ p h. apart o p (at_head o os o refl) h,
  apart_joined os ps (λ q p h g. apart q p (in_rest o os q h) (in_rest o (os ++ ps) p g)) rest,
)

-- what is known of an order at a rank
pub record AtLevel (c : Cluster) (k : ℕ) (o : Order) : Type 0 where
  pub among : Contains c.orders o
  pub cycling : is_cycling o ≡ true
  pub ranked : rank c (step_of Stop o.first) ≡ k

pub level_of : (c : Cluster) (k : ℕ) (o : Order) → Contains (at_level c k) o → AtLevel c k o
level_of c k o h =
    let m = of_filter (is_at_level c k) c.orders o h in
    record {
      among = m.among;
      cycling = sooner (is_cycling o) _ m.passes;
      ranked = eqb-true (rank c (step_of Stop o.first)) k (later (is_cycling o) _ m.passes);
    }

-- and of one below a rank
pub record BelowLevel (c : Cluster) (k : ℕ) (o : Order) : Type 0 where
  pub among : Contains c.orders o
  pub cycling : is_cycling o ≡ true
  pub ranked : rank c (step_of Stop o.first) < k

pub below_of : (c : Cluster) (k : ℕ) (o : Order) → Contains (below_level c k) o → BelowLevel c k o
below_of c zero o h = absurd (in_none o h)
below_of c (suc k) o h = elim (Contains-append_cases (at_level c k) (below_level c k) o h) [
  | inl here ↦ let l = level_of c k o here in let r = l.ranked in record { among = l.among; cycling = l.cycling; ranked = omega arith }
  | inr under ↦ let l = below_of c k o under in let r = l.ranked in record { among = l.among; cycling = l.cycling; ranked = omega arith }
]

pub in_below : (c : Cluster) (k : ℕ) (o : Order) → Contains c.orders o → is_cycling o ≡ true → rank c (step_of Stop o.first) < k
    → Contains (below_level c k) o
in_below c zero o h cycling lt = absurd (let f : ⊥ = omega arith in f)
in_below c (suc k) o h cycling lt = elim (cases_lt (rank c (step_of Stop o.first)) k) [
  | inl less ↦ Contains-append_right (at_level c k) (below_level c k) o (in_below c k o h cycling less)
  | inr le ↦
      let e : rank c (step_of Stop o.first) ≡ k = omega arith in
      Contains-append_left (at_level c k) (below_level c k) o
      (in_filter (is_at_level c k) c.orders o h (and_from (is_cycling o) _ cycling (eq-eqb (rank c (step_of Stop o.first)) k e)))
]

pub are_cycling : (c : Cluster) (top : ℕ) → ((o : Order) → Contains c.orders o → rank c (step_of Stop o.first) < top)
    → AreCycling c (below_level c top)
are_cycling c top all =
    (λ o h cycling. in_below c top o h cycling (all o h), λ o h. let b = below_of c top o h in (b.among, b.cycling))

module _ (c : Cluster) (ordered : AllOrder c) (free : StepsHaveNoLoop c) where
  level_apart : (k : ℕ) (o p : Order) → Contains (at_level c k) o → Contains (below_level c (suc k)) p → p.then_leaf ≢ o.first
  level_apart k o p h g same =
      let l = level_of c k o h in
      let b = below_of c (suc k) p g in
      let up = then_stops_first c ordered free p b.among b.cycling in
      let at : rank c (step_of Stop p.then_leaf) ≡ rank c (step_of Stop o.first) = ap (λ r. rank c (step_of Stop r)) same in
      let r = l.ranked in
      let s = b.ranked in
      let f : ⊥ = omega arith in
      f

  pub below_apart : (k : ℕ) → NoneComesBack (below_level c k)
  below_apart zero = tt
  below_apart (suc k) = apart_joined (at_level c k) (below_level c k) (level_apart k) (below_apart k)
