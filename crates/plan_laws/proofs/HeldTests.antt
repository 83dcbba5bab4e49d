-- The tests of the rules that hold cells back say what the rules say.
use Rattle.std.proofs.Common.{arith, ◌≡◌, ◌&&◌, ◌||◌, not, nat_lt, ℕ, true, List, refl, length, Contains}
use Rattle.std.specs.List.{range_with_len}
use Rattle.std.proofs.lemmas.Bool.{and_from, lt-ltb, ltb-true, not-true, not_from_false}
use Rattle.lemmas.proofs.Booleans.{if_then, implied, later, sooner}
use Rattle.lemmas.proofs.Searches.{each_passes, all_pass}
use Rattle.lemmas.proofs.Members.{in_range, of_range}
use Rattle.cluster_types.specs.declared.cluster.Cluster.{Cluster}
use Rattle.cluster_types.specs.declared.journal.Event.{Event}
use Rattle.cluster_types.specs.declared.placement.Decision.{Decision}
use Rattle.cluster_types.specs.declared.rules.Colocation.{Colocation}
use Rattle.cluster_types.specs.declared.rules.Order.{Order}
use Rattle.cluster_types.specs.Choice.{is_mandatory}
use Rattle.cluster_types.specs.Decisions.{decision_of}
use Rattle.cluster_types.specs.Held.{ColocationCanHoldBack, LacksFirst, LacksPrimary, OrderCanHoldBack}
use Rattle.cluster_types.specs.Pins.{is_pinned}
use Rattle.cluster_types.specs.Precedence.{is_mandatory_order, is_giving, role_given}
use Rattle.cluster_types.specs.Tables.{Targets, holds_role, is_in_scope}
use Rattle.cluster_types.proofs.OpLaws.{of_kind}
use Rattle.plan_laws.specs.Inner.HeldMarks.{MarkedDecisions, lacks_first, lacks_primary, may_colocation, may_order}

module _ (c : Cluster) (es : List Event) (table : Targets) where
  pub order_may : (o : Order) (n : ℕ) → Contains c.orders o → may_order c es table o n ≡ true → OrderCanHoldBack c es table o n
  order_may o n present h =
      let five = sooner _ (holds_role table o.then_leaf (role_given o.then_op) n) h in
      let four = sooner _ (nat_lt n (length c.nodes)) five in
      let three = sooner _ (not (is_pinned c es o.then_leaf)) four in
      let two = sooner _ (is_giving o.then_op) three in
      record {
        present = present;
        mandatory = of_kind o.kind (sooner (is_mandatory_order o.kind) (is_giving o.first_op) two);
        first_gives = later (is_mandatory_order o.kind) (is_giving o.first_op) two;
        then_gives = later _ (is_giving o.then_op) three;
        not_pinned = not-true (is_pinned c es o.then_leaf) (later _ (not (is_pinned c es o.then_leaf)) four);
        within = ltb-true n (length c.nodes) (later _ (nat_lt n (length c.nodes)) five);
        chosen = later _ (holds_role table o.then_leaf (role_given o.then_op) n) h;
      }

  pub may_of_order : (o : Order) (n : ℕ) → OrderCanHoldBack c es table o n → may_order c es table o n ≡ true
  may_of_order o n may =
      let kind_is : is_mandatory_order o.kind ≡ true = rw may.mandatory refl in
      let free = not_from_false (is_pinned c es o.then_leaf) may.not_pinned in
      let low = lt-ltb n (length c.nodes) may.within in
      rw (kind_is, may.first_gives, may.then_gives, free, low) may.chosen

  pub colocation_may : (col : Colocation) (n : ℕ) → Contains c.colocations col → may_colocation c es table col n ≡ true → ColocationCanHoldBack c es table col n
  colocation_may col n present h =
      let three = sooner _ (holds_role table col.dependent col.dependent_role n) h in
      let two = sooner _ (nat_lt n (length c.nodes)) three in
      record {
        present = present;
        mandatory = sooner (is_mandatory col) (not (is_pinned c es col.dependent)) two;
        not_pinned = not-true (is_pinned c es col.dependent) (later (is_mandatory col) (not (is_pinned c es col.dependent)) two);
        within = ltb-true n (length c.nodes) (later _ (nat_lt n (length c.nodes)) three);
        chosen = later _ (holds_role table col.dependent col.dependent_role n) h;
      }

  pub may_of_colocation : (col : Colocation) (n : ℕ) → ColocationCanHoldBack c es table col n → may_colocation c es table col n ≡ true
  may_of_colocation col n may =
      let free = not_from_false (is_pinned c es col.dependent) may.not_pinned in
      let low = lt-ltb n (length c.nodes) may.within in
      rw (may.mandatory, free, low) may.chosen

  -- what is lacking by the marks, of some set that has the marked cells

  module _ (marks : MarkedDecisions) (set : Decision → ℕ → Type 0) (has : (d : Decision) (n : ℕ) → marks d n ≡ true → set d n) where
    pub first_lacks : (o : Order) (n : ℕ) → lacks_first c es table marks o n ≡ true → LacksFirst c es table set o n
    first_lacks o n h m within scope held =
        has (decision_of o.first (role_given o.first_op)) m
        (implied (is_in_scope o n m && holds_role table o.first (role_given o.first_op) m) (marks (decision_of o.first (role_given o.first_op)) m)
        (each_passes (λ m. not (is_in_scope o n m && holds_role table o.first (role_given o.first_op) m) || marks (decision_of o.first (role_given o.first_op)) m)
        (range_with_len 0 (length c.nodes)) m h (in_range 0 (length c.nodes) m (omega arith) (omega arith)))
        (and_from (is_in_scope o n m) (holds_role table o.first (role_given o.first_op) m) scope held))

    pub primary_lacks : (col : Colocation) (n : ℕ) → lacks_primary c es table marks col n ≡ true → LacksPrimary c es table set col n
    primary_lacks col n h held =
        has (decision_of col.primary col.primary_role) n
        (implied (holds_role table col.primary col.primary_role n) (marks (decision_of col.primary col.primary_role) n) h held)

  -- and back, where the marks have the set
  module _ (marks : MarkedDecisions) (set : Decision → ℕ → Type 0) (marked : (d : Decision) (n : ℕ) → set d n → marks d n ≡ true) where
    pub lacks_of_first : (o : Order) (n : ℕ) → LacksFirst c es table set o n → lacks_first c es table marks o n ≡ true
    lacks_of_first o n lacks =
        all_pass (λ m. not (is_in_scope o n m && holds_role table o.first (role_given o.first_op) m) || marks (decision_of o.first (role_given o.first_op)) m)
        (range_with_len 0 (length c.nodes))
        (λ m there. let low = of_range 0 (length c.nodes) m there in
        if_then (is_in_scope o n m && holds_role table o.first (role_given o.first_op) m) (marks (decision_of o.first (role_given o.first_op)) m)
        (λ both. marked (decision_of o.first (role_given o.first_op)) m (lacks m (omega arith)
        (sooner (is_in_scope o n m) (holds_role table o.first (role_given o.first_op) m) both)
        (later (is_in_scope o n m) (holds_role table o.first (role_given o.first_op) m) both))))

    pub lacks_of_primary : (col : Colocation) (n : ℕ) → LacksPrimary c es table set col n → lacks_primary c es table marks col n ≡ true
    lacks_of_primary col n lacks =
        if_then (holds_role table col.primary col.primary_role n) (marks (decision_of col.primary col.primary_role) n)
        (λ held. marked (decision_of col.primary col.primary_role) n (lacks held))
