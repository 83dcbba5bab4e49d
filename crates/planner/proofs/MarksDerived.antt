-- Each cell that is marked is one that is stopped and started again.
use Rattle.std.proofs.Common.{arith, ◌≡◌, ◌<◌, ◌==◌, ◌&&◌, nat_lt, ℕ, Bool, true, false, List, [], ◌∷◌, length, refl, inl, inr, Contains, Any}
use Rattle.std.specs.List.{range_with_len}
use Rattle.std.proofs.lemmas.Bool.{eqb-true, ltb-true, or_cases}
use Rattle.std.proofs.lemmas.List.Folds.{Any-from_list_any}
use Rattle.lemmas.proofs.Booleans.{sooner, later}
use Rattle.lemmas.proofs.Members.{at_head, in_rest, of_range}
use Rattle.cluster_types.specs.declared.cluster.Cluster.{Cluster}
use Rattle.cluster_types.specs.declared.journal.Event.{Event}
use Rattle.cluster_types.specs.declared.rules.Order.{Order}
use Rattle.cluster_types.specs.Fields.{copies}
use Rattle.cluster_types.specs.NeededActions.{Cycled, by_copies, by_order, by_cycled, OrderCanCycle, can_cycle, has_disturbing, steps_at}
use Rattle.cluster_types.specs.Precedence.{role_given}
use Rattle.cluster_types.specs.Tables.{Targets, holds_role, is_in_scope}
use Rattle.cluster_types.specs.Terms.{active_count}
use Rattle.planner.specs.CycledCells.{MarkedCells, first_marks, is_cycling, is_disturbed, is_marked_by, can_be_marked, with_order, with_orders}
use Rattle.planner.proofs.OrderWords.{Cycles, cycles_of}

module _ (c : Cluster) (es : List Event) (targets : Targets) where
  -- all that is marked is cycled
  abbrev pub AllCycled : MarkedCells → Type 0
  AllCycled marks = (r n : ℕ) → marks r n ≡ true → Cycled c es targets r n

  pub first_cycled : AllCycled (first_marks c es targets)
  first_cycled r n h =
      let lr : Bool = nat_lt r (length c.leaves) in
      let ln : Bool = nat_lt n (length c.nodes) in
      let can : Bool = can_cycle c es targets r n in
      let three : lr && ln && can ≡ true = sooner (lr && ln && can) (nat_lt (copies c r) (active_count c es r)) h in
      let two : lr && ln ≡ true = sooner (lr && ln) can three in
      by_copies r n (ltb-true _ _ (sooner lr ln two)) (ltb-true _ _ (later lr ln two)) (later (lr && ln) can three)
      (later (lr && ln && can) (nat_lt (copies c r) (active_count c es r)) h)

  module _ (marks : MarkedCells) (so_far : AllCycled marks) (o : Order) (among : Contains c.orders o) (cycling : is_cycling o ≡ true) where
    may_cycle : (n m : ℕ) → can_be_marked c es targets o n ≡ true → m < length c.nodes → is_in_scope o n m ≡ true
        → OrderCanCycle c es targets o n m
    may_cycle n m h lt scope =
        let k : Cycles o = cycles_of o cycling in
        let ln : Bool = nat_lt n (length c.nodes) in
        let can : Bool = can_cycle c es targets o.then_leaf n in
        let two : ln && can ≡ true = sooner (ln && can) (holds_role targets o.then_leaf (role_given o.then_op) n) h in
        record {
          present = among;
          mandatory = k.mandatory;
          both_ways = k.both_ways;
          first_gives = k.first_up;
          then_gives = k.then_up;
          within = ltb-true _ _ (sooner ln can two);
          first_within = lt;
          in_scope = scope;
          can_be_cycled = later ln can two;
          in_role = later (ln && can) (holds_role targets o.then_leaf (role_given o.then_op) n) h;
        }

    by_disturbed : (n m : ℕ) → OrderCanCycle c es targets o n m
        → is_disturbed c es targets marks o m ≡ true → Cycled c es targets o.then_leaf n
    by_disturbed n m may h =
        elim (or_cases (has_disturbing o.first_op (steps_at c es targets o.first m false))
        (marks o.first m && has_disturbing o.first_op (steps_at c es targets o.first m true)) h) [
          | inl own ↦ by_order o n m may own
          | inr again ↦
              by_cycled o n m may (so_far o.first m (sooner (marks o.first m) _ again))
              (later (marks o.first m) _ again)
        ]

    by_some : (n : ℕ) → can_be_marked c es targets o n ≡ true
        → Any (λ m. is_in_scope o n m && is_disturbed c es targets marks o m ≡ true) (range_with_len 0 (length c.nodes))
        → Cycled c es targets o.then_leaf n
    by_some n h (k, m, lt, at, t) =
        let within = of_range 0 (length c.nodes) m (k, lt, at) in
        by_disturbed n m (may_cycle n m h (omega arith) (sooner (is_in_scope o n m) _ t)) (later (is_in_scope o n m) _ t)

    marked_cycled : (n : ℕ) → is_marked_by c es targets marks o n ≡ true → Cycled c es targets o.then_leaf n
    marked_cycled n h =
        by_some n (sooner (can_be_marked c es targets o n) _ h)
        (Any-from_list_any (λ m. is_in_scope o n m && is_disturbed c es targets marks o m) (range_with_len 0 (length c.nodes))
        (later (can_be_marked c es targets o n) _ h))

    new_cycled : (r n : ℕ) → r ≡ o.then_leaf → is_marked_by c es targets marks o n ≡ true → Cycled c es targets r n
    new_cycled r n e h = rw e (marked_cycled n h)

    pub order_cycled : AllCycled (with_order c es targets marks o)
    order_cycled r n h = elim (or_cases (marks r n) (r == o.then_leaf && is_marked_by c es targets marks o n) h) [
      | inl old ↦ so_far r n old
      | inr new ↦
          new_cycled r n (eqb-true r o.then_leaf (sooner (r == o.then_leaf) _ new)) (later (r == o.then_leaf) _ new)
    ]

  -- whatever orders come, and in whatever order
  pub orders_cycled : (os : List Order) → ((o : Order) → Contains os o → Contains c.orders o × (is_cycling o ≡ true)) → (marks : MarkedCells)
      → AllCycled marks → AllCycled (with_orders c es targets marks os)
  orders_cycled [] each marks so_far = so_far
  orders_cycled (o ∷ os) each marks so_far =
      let first = each o (at_head o os o refl) in
      orders_cycled os (λ p h. each p (in_rest o os p h)) (with_order c es targets marks o)
      (order_cycled marks so_far o first.0 first.1)
