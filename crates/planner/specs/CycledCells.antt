-- Which cells are stopped and started again, found by one pass over the orders, as the code makes it. Which cells these are says `Cycled`, and laws say that
-- the pass finds just them (`marks_of_orders_are_the_cycled`, `falling_orders_find_the_cycled`).
use Rattle.std.specs.Prelude.{◌≡◌, ◌≢◌, ◌≤◌, ℕ, nat_lt, ◌==◌, ◌&&◌, ◌||◌, Bool, true, false, List, [], ◌∷◌, length, Contains, AllPairs}
use Rattle.std.specs.List.{list_any, range_with_len}
use Rattle.cluster_types.specs.declared.cluster.Cluster.{Cluster}
use Rattle.cluster_types.specs.declared.journal.Event.{Event}
use Rattle.cluster_types.specs.declared.leaf.Op.TheVariants.{Stop}
use Rattle.cluster_types.specs.declared.rules.Order.{Order}
use Rattle.cluster_types.specs.Fields.{copies}
use Rattle.cluster_types.specs.NeededActions.{can_cycle, has_disturbing, steps_at}
use Rattle.cluster_types.specs.Numbers.{rank, step_of}
use Rattle.cluster_types.specs.Precedence.{is_mandatory_order, is_giving, role_given}
use Rattle.cluster_types.specs.Tables.{Targets, holds_role, is_in_scope}
use Rattle.cluster_types.specs.Terms.{active_count}

-- which cells are marked
abbrev pub MarkedCells : Type 0
MarkedCells = ℕ → ℕ → Bool

-- the order may have cells of its then cycled
abbrev pub is_cycling : Order → Bool
is_cycling o = is_mandatory_order o.kind && o.symmetrical && is_giving o.first_op && is_giving o.then_op

module _ (c : Cluster) (es : List Event) (targets : Targets) where
  -- at first the cells are marked of leaves that are active in more cells than they have copies
  abbrev pub first_marks : MarkedCells
  first_marks r n =
      nat_lt r (length c.leaves) && nat_lt n (length c.nodes) && can_cycle c es targets r n && nat_lt (copies c r) (active_count c es r)

  -- the first of the order is disturbed on the node, by the steps that it needs itself or by those that it gets as a marked cell
  abbrev pub is_disturbed : MarkedCells → Order → ℕ → Bool
  is_disturbed marks o m =
      has_disturbing o.first_op (steps_at c es targets o.first m false)
      || marks o.first m && has_disturbing o.first_op (steps_at c es targets o.first m true)

  -- the then of the order can be cycled on the node, where it is in its role in the end
  abbrev pub can_be_marked : Order → ℕ → Bool
  can_be_marked o n =
      nat_lt n (length c.nodes) && can_cycle c es targets o.then_leaf n && holds_role targets o.then_leaf (role_given o.then_op) n

  abbrev pub is_marked_by : MarkedCells → Order → ℕ → Bool
  is_marked_by marks o n =
      can_be_marked o n && list_any (λ m. is_in_scope o n m && is_disturbed marks o m) (range_with_len 0 (length c.nodes))

  -- the marks with those that an order adds
  abbrev pub with_order : MarkedCells → Order → MarkedCells
  with_order marks o r n = marks r n || r == o.then_leaf && is_marked_by marks o n

  -- the marks with those that these orders add, one after the other
  abbrev pub with_orders : MarkedCells → List Order → MarkedCells
  with_orders marks [] = marks
  with_orders marks (o ∷ os) = with_orders (with_order marks o) os

-- the list has all orders of the cluster that may have cells cycled, and no others
abbrev pub AreCycling : Cluster → List Order → Type 0
AreCycling c os =
    ((o : Order) → Contains c.orders o → is_cycling o ≡ true → Contains os o)
    × ((o : Order) → Contains os o → Contains c.orders o × (is_cycling o ≡ true))

-- no order of the list has as its then its own first, or that of one which stands before it
abbrev pub NoneComesBack : List Order → Type 0
NoneComesBack [] = Unit {0}
NoneComesBack (o ∷ os) = ((p : Order) → Contains (o ∷ os) p → p.then_leaf ≢ o.first) × NoneComesBack os

-- the orders stand by falling rank of the stops of their firsts
abbrev pub FallByRank : Cluster → List Order → Type 0
FallByRank c os = AllPairs (λ (o p : Order). rank c (step_of Stop p.first) ≤ rank c (step_of Stop o.first)) os
