-- The held cells are found by marking, round by round, what the rules give of the cells marked so far: each round that isn't the last marks more of them.
use Rattle.std.proofs.Common.{◌≡◌, ◌||◌, ℕ, Bool, true, false, List, refl, Any}
use Rattle.std.specs.List.{list_any}
use Rattle.std.proofs.lemmas.List.Folds.{Any-from_list_any}
use Rattle.std.proofs.lemmas.Bool.{and_from}
use Rattle.lemmas.proofs.Booleans.{sooner, later}
use Rattle.lemmas.proofs.Searches.{passes_by}
use Rattle.loops.proofs.Needs.{is_itself, same_decision}
use Rattle.cluster_types.specs.declared.cluster.Cluster.{Cluster}
use Rattle.cluster_types.specs.declared.journal.Event.{Event}
use Rattle.cluster_types.specs.declared.leaf.Role.TheVariants as role
use Rattle.cluster_types.specs.declared.placement.Decision.{Decision}
use Rattle.cluster_types.specs.declared.placement.Decision.TheVariants.{Place, Promote}
use Rattle.cluster_types.specs.declared.rules.Order.{Order}
use Rattle.cluster_types.specs.Decisions.{decision_of, is_same_decision}
use Rattle.cluster_types.specs.Held.{Held, LacksFirst, OrderCanHoldBack, by_colocation, by_order, by_place}
use Rattle.cluster_types.specs.LeastSets.{IsClosedUnderHolding}
use Rattle.cluster_types.specs.Precedence.{role_given}
use Rattle.cluster_types.specs.Tables.{Targets, holds_role}
use Rattle.plan_laws.specs.Inner.HeldMarks.{MarkedDecisions, colocation_holds, is_held_by, lacks_first, lacks_primary, may_colocation, may_order, order_holds, place_holds}
use Rattle.plan_laws.proofs.HeldTests.{colocation_may, first_lacks, lacks_of_first, lacks_of_primary, may_of_colocation, may_of_order, order_may, primary_lacks}

one_of_three : (a b d : Bool) → {X : Type 0} → (a ≡ true → X) → (b ≡ true → X) → (d ≡ true → X) → a || b || d ≡ true → X
one_of_three true b d f g h e = f refl
one_of_three false true d f g h e = g refl
one_of_three false false d f g h e = h e

module _ (c : Cluster) (es : List Event) (table : Targets) where
  -- what the rules give of cells that are held is held

  module _ (marks : MarkedDecisions) (sound : (d : Decision) (n : ℕ) → marks d n ≡ true → Held c es table d n) where
    order_gives : (d : Decision) (n : ℕ) → Any (λ o. order_holds c es table marks d n o ≡ true) c.orders → Held c es table d n
    order_gives d n (k, o, lt, there, h) =
        let two = sooner _ (lacks_first c es table marks o n) h in
        let same : d ≡ decision_of o.then_leaf (role_given o.then_op) = same_decision d _ (sooner (is_same_decision d (decision_of o.then_leaf (role_given o.then_op))) _ two) in
        rw same (by_order o n
        (order_may c es table o n (k, lt, there) (later (is_same_decision d (decision_of o.then_leaf (role_given o.then_op))) (may_order c es table o n) two))
        (first_lacks c es table marks (Held c es table) sound o n (later _ (lacks_first c es table marks o n) h)))

    colocation_gives : (d : Decision) (n : ℕ) → Any (λ col. colocation_holds c es table marks d n col ≡ true) c.colocations → Held c es table d n
    colocation_gives d n (k, col, lt, there, h) =
        let two = sooner _ (lacks_primary c es table marks col n) h in
        let same : d ≡ decision_of col.dependent col.dependent_role = same_decision d _ (sooner (is_same_decision d (decision_of col.dependent col.dependent_role)) _ two) in
        rw same (by_colocation col n
        (colocation_may c es table col n (k, lt, there) (later (is_same_decision d (decision_of col.dependent col.dependent_role)) (may_colocation c es table col n) two))
        (primary_lacks c es table marks (Held c es table) sound col n (later _ (lacks_primary c es table marks col n) h)))

    place_gives : (d : Decision) (n : ℕ) → place_holds c es table marks d n ≡ true → Held c es table d n
    place_gives (Place r) n h = cc
    place_gives (Promote r) n h =
        by_place r n (sooner (holds_role table r role.Promoted n) (marks (Place r) n) h) (sound (Place r) n (later (holds_role table r role.Promoted n) (marks (Place r) n) h))

    pub rules_give : (d : Decision) (n : ℕ) → is_held_by c es table marks d n ≡ true → Held c es table d n
    rules_give d n h =
        one_of_three (list_any (order_holds c es table marks d n) c.orders) (list_any (colocation_holds c es table marks d n) c.colocations)
        (place_holds c es table marks d n)
        (λ o. order_gives d n (Any-from_list_any (order_holds c es table marks d n) c.orders o))
        (λ col. colocation_gives d n (Any-from_list_any (colocation_holds c es table marks d n) c.colocations col))
        (place_gives d n) h

  -- marks to which the rules add none are closed

  first_true : (a b d : Bool) → a ≡ true → a || b || d ≡ true
  first_true a b d h = rw h refl

  second_true : (a b d : Bool) → b ≡ true → a || b || d ≡ true
  second_true true b d h = refl
  second_true false b d h = rw h refl

  third_true : (a b d : Bool) → d ≡ true → a || b || d ≡ true
  third_true true b d h = refl
  third_true false true d h = refl
  third_true false false d h = h

  module _ (marks : MarkedDecisions) (stable : (d : Decision) (n : ℕ) → is_held_by c es table marks d n ≡ true → marks d n ≡ true) where
    by_an_order : (o : Order) (n : ℕ) → OrderCanHoldBack c es table o n → LacksFirst c es table (λ d n. marks d n ≡ true) o n
        → marks (decision_of o.then_leaf (role_given o.then_op)) n ≡ true
    by_an_order o n may lacks =
        let lacking : lacks_first c es table marks o n ≡ true
        = lacks_of_first c es table marks (λ d n. marks d n ≡ true) (λ d n h. h) o n lacks in
        stable (decision_of o.then_leaf (role_given o.then_op)) n
        (first_true (list_any (order_holds c es table marks (decision_of o.then_leaf (role_given o.then_op)) n) c.orders) _ _
        (passes_by (order_holds c es table marks (decision_of o.then_leaf (role_given o.then_op)) n) c.orders o may.present
        (and_from _ (lacks_first c es table marks o n)
        (and_from (is_same_decision (decision_of o.then_leaf (role_given o.then_op)) (decision_of o.then_leaf (role_given o.then_op))) _
        (is_itself (decision_of o.then_leaf (role_given o.then_op))) (may_of_order c es table o n may)) lacking)))

    pub stable_is_closed : IsClosedUnderHolding c es table (λ d n. marks d n ≡ true)
    stable_is_closed = record {
      by_order = λ o n may lacks. by_an_order o n may lacks;
      by_colocation = λ col n may lacks.
          stable (decision_of col.dependent col.dependent_role) n
          (second_true (list_any (order_holds c es table marks (decision_of col.dependent col.dependent_role) n) c.orders)
          (list_any (colocation_holds c es table marks (decision_of col.dependent col.dependent_role) n) c.colocations) _
          (passes_by (colocation_holds c es table marks (decision_of col.dependent col.dependent_role) n) c.colocations col may.present
          (and_from _ (lacks_primary c es table marks col n)
          (and_from (is_same_decision (decision_of col.dependent col.dependent_role) (decision_of col.dependent col.dependent_role)) _
          (is_itself (decision_of col.dependent col.dependent_role)) (may_of_colocation c es table col n may))
          (lacks_of_primary c es table marks (λ d n. marks d n ≡ true) (λ d n h. h) col n lacks))));
      by_place = λ r n promoted held.
          stable (Promote r) n
          (third_true (list_any (order_holds c es table marks (Promote r) n) c.orders) (list_any (colocation_holds c es table marks (Promote r) n) c.colocations)
          (place_holds c es table marks (Promote r) n)
          (and_from (holds_role table r role.Promoted n) (marks (Place r) n) promoted held));
    }
