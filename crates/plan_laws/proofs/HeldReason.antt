-- A place that is held is held by a rule, and one of these is the first.
use Rattle.std.proofs.Common.{◌≡◌, ◌&&◌, ℕ, Bool, true, List, ◌⊎◌, inl, inr, refl, Contains}
use Rattle.std.specs.List.{AllByRecursion}
use Rattle.lemmas.proofs.Booleans.{sooner, later}
use Rattle.loops.proofs.Needs.{is_itself, placed_by, same_decision}
use Rattle.cluster_types.specs.declared.cluster.Cluster.{Cluster}
use Rattle.cluster_types.specs.declared.journal.Event.{Event}
use Rattle.cluster_types.specs.declared.leaf.Role.TheVariants as role
use Rattle.cluster_types.specs.declared.placement.Decision.{Decision}
use Rattle.cluster_types.specs.declared.placement.Decision.TheVariants.{Place}
use Rattle.cluster_types.specs.declared.rules.Colocation.{Colocation}
use Rattle.cluster_types.specs.declared.rules.Order.{Order}
use Rattle.cluster_types.specs.Choice.{is_dependent, is_mandatory}
use Rattle.cluster_types.specs.Decisions.{decision_of, is_same_decision}
use Rattle.cluster_types.specs.Held.{Held, by_colocation, by_order, by_place}
use Rattle.cluster_types.specs.Precedence.{is_mandatory_order, is_giving, role_given}
use Rattle.cluster_types.specs.Reasons.{IsFirstOf, IsHeldByColocation, IsHeldByOrder}
use Rattle.cluster_types.specs.Tables.{Targets}
use Rattle.cluster_types.proofs.OpLaws.{of_kind, start_of}
use Rattle.plan_laws.specs.Inner.HeldMarks.{MarkedDecisions, lacks_first, lacks_primary}
use Rattle.plan_laws.proofs.HeldTests.{first_lacks, lacks_of_first, lacks_of_primary, primary_lacks}
use Rattle.plan_laws.proofs.Firsts.{FirstOrNone, a_first, first_or_none, never, none_holds}

module _ (c : Cluster) (es : List Event) (table : Targets) (marks : MarkedDecisions) (sound : (d : Decision) (n : ℕ) → marks d n ≡ true → Held c es table d n)
    (marked : (d : Decision) (n : ℕ) → Held c es table d n → marks d n ≡ true) (r n : ℕ) where
  -- the two tests for a rule that holds the leaf

  abbrev pub by_colocation_test : Colocation → Bool
  by_colocation_test col = is_mandatory col && is_dependent (Place r) col && lacks_primary c es table marks col n

  colocation_yes : (col : Colocation) → by_colocation_test col ≡ true → IsHeldByColocation c es table r n col
  colocation_yes col h =
      let two = sooner _ (lacks_primary c es table marks col n) h in
      record {
        mandatory = sooner (is_mandatory col) (is_dependent (Place r) col) two;
        dependent = later (is_mandatory col) (is_dependent (Place r) col) two;
        lacking = primary_lacks c es table marks (Held c es table) sound col n (later _ (lacks_primary c es table marks col n) h);
      }

  colocation_no : (col : Colocation) → IsHeldByColocation c es table r n col → by_colocation_test col ≡ true
  colocation_no col h = rw (h.mandatory, h.dependent) (lacks_of_primary c es table marks (Held c es table) marked col n h.lacking)

  abbrev pub by_order_test : Order → Bool
  by_order_test o =
      is_mandatory_order o.kind && is_giving o.first_op && is_giving o.then_op && is_same_decision (Place r) (decision_of o.then_leaf (role_given o.then_op))
      && lacks_first c es table marks o n

  order_yes : (o : Order) → by_order_test o ≡ true → IsHeldByOrder c es table r n o
  order_yes o h =
      let four = sooner _ (lacks_first c es table marks o n) h in
      let three = sooner _ (is_same_decision (Place r) (decision_of o.then_leaf (role_given o.then_op))) four in
      let two = sooner _ (is_giving o.then_op) three in
      let same : Place r ≡ decision_of o.then_leaf (role_given o.then_op)
      = same_decision (Place r) _ (later _ (is_same_decision (Place r) (decision_of o.then_leaf (role_given o.then_op))) four) in
      let (leaf, starts) = placed_by r o.then_leaf (role_given o.then_op) same in
      record {
        mandatory = of_kind o.kind (sooner (is_mandatory_order o.kind) (is_giving o.first_op) two);
        later = leaf;
        starts = start_of o.then_op (later _ (is_giving o.then_op) three) starts;
        first_gives = later (is_mandatory_order o.kind) (is_giving o.first_op) two;
        lacking = first_lacks c es table marks (Held c es table) sound o n (later _ (lacks_first c es table marks o n) h);
      }

  order_no : (o : Order) → IsHeldByOrder c es table r n o → by_order_test o ≡ true
  order_no o h =
      let kind_is : is_mandatory_order o.kind ≡ true = rw h.mandatory refl in
      let other : is_giving o.then_op ≡ true = rw h.starts refl in
      let role_is : role_given o.then_op ≡ role.Started = rw h.starts refl in
      let same : is_same_decision (Place r) (decision_of o.then_leaf (role_given o.then_op)) ≡ true = rw (role_is, h.later) (is_itself (Place r)) in
      let lacks = lacks_of_first c es table marks (Held c es table) marked o n h.lacking in
      rw (kind_is, h.first_gives, other, same) lacks

  -- a place that is held is held by a rule
  pub data RuleOf : Type 0 where
    a_colocation : (col : Colocation) → Contains c.colocations col → IsHeldByColocation c es table r n col → RuleOf
    an_order : (o : Order) → Contains c.orders o → IsHeldByOrder c es table r n o → RuleOf

  rule_of : (d : Decision) → Place r ≡ d → Held c es table d n → RuleOf
  rule_of _ e (by_order o _ may lacks) =
      let (leaf, starts) = placed_by r o.then_leaf (role_given o.then_op) e in
      an_order o may.present (record {
        mandatory = may.mandatory;
        later = leaf;
        starts = start_of o.then_op may.then_gives starts;
        first_gives = may.first_gives;
        lacking = λ m within scope held. lacks m within scope held;
      })
  rule_of _ e (by_colocation col _ may lacks) =
      a_colocation col may.present (record { mandatory = may.mandatory; dependent = rw (← e) (is_itself (Place r)); lacking = λ held. lacks held })
  rule_of _ e (by_place s _ promoted held) = cc

  pub held_by_rule : Held c es table (Place r) n → RuleOf
  held_by_rule h = rule_of (Place r) refl h

  -- and one of them is the first
  pub record FirstRule : Type 0 where
    pub id : List ℕ
    pub rule :
        ((col : Colocation) × IsFirstOf (IsHeldByColocation c es table r n) c.colocations col × (id ≡ col.id))
        ⊎ (AllByRecursion (λ col. ¬ IsHeldByColocation c es table r n col) c.colocations
        × ((o : Order) × IsFirstOf (IsHeldByOrder c es table r n) c.orders o × (id ≡ o.id)))

  pub first_rule : Held c es table (Place r) n → FirstRule
  first_rule h =
      go (first_or_none by_colocation_test (IsHeldByColocation c es table r n) colocation_yes colocation_no c.colocations)
      (first_or_none by_order_test (IsHeldByOrder c es table r n) order_yes order_no c.orders) (held_by_rule h)
    where
      go : FirstOrNone by_colocation_test (IsHeldByColocation c es table r n) colocation_yes colocation_no c.colocations
          → FirstOrNone by_order_test (IsHeldByOrder c es table r n) order_yes order_no c.orders → RuleOf → FirstRule
      go (a_first col among first) other some = record { id = col.id; rule = inl (col, first, refl) }
      go (never all) (a_first o among first) some = record { id = o.id; rule = inr (all, (o, first, refl)) }
      go (never all) (never too) (a_colocation col among held) =
          absurd (none_holds by_colocation_test (IsHeldByColocation c es table r n) colocation_yes colocation_no c.colocations col all among held)
      go (never all) (never too) (an_order o among held) =
          absurd (none_holds by_order_test (IsHeldByOrder c es table r n) order_yes order_no c.orders o too among held)
