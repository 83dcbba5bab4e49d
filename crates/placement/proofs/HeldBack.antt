-- The tests for a rule that holds a leaf back say what the definitions say.
use Rattle.std.proofs.Common.{◌≡◌, ◌<◌, ◌&&◌, not, ℕ, Bool, true, false, if◌then◌else◌, Some, None, List, refl, length}
use Rattle.std.proofs.lemmas.Bool.{and_from, not-true}
use Rattle.lemmas.proofs.Booleans.{later, sooner}
use Rattle.loops.proofs.Needs.{is_itself, placed_by, same_decision}
use Rattle.cluster_types.specs.declared.cluster.Cluster.{Cluster}
use Rattle.cluster_types.specs.declared.journal.Event.{Event}
use Rattle.cluster_types.specs.declared.leaf.Role.{Role}
use Rattle.cluster_types.specs.declared.leaf.Role.TheVariants as role
use Rattle.cluster_types.specs.declared.placement.Decision.TheVariants.{Place}
use Rattle.cluster_types.specs.declared.rules.Colocation.{Colocation}
use Rattle.cluster_types.specs.declared.rules.Order.{Order}
use Rattle.cluster_types.specs.Choice.{is_mandatory}
use Rattle.cluster_types.specs.Decisions.{decision_of, is_same_decision}
use Rattle.cluster_types.specs.Held.{Held}
use Rattle.cluster_types.specs.Precedence.{is_mandatory_order, is_giving, role_given}
use Rattle.cluster_types.specs.Reasons.{IsHeldByColocation, IsHeldByOrder}
use Rattle.cluster_types.specs.Tables.{Targets, holds_role}
use Rattle.cluster_types.proofs.OpLaws.{of_kind, start_of}
use Rattle.placement.specs.Inner.Dependencies.{from_colocation, from_order, may_hold_back, of_colocation, of_order}
use Rattle.placement.specs.Inner.Reasoning.{holds_back}
use Rattle.placement.specs.Inner.Taking.{has_its_primary}
use Rattle.placement.proofs.EndTargets.{has_gone, missing, scoped}
use Rattle.placement.proofs.Lacking.{held_not, lacked, lacking}
use Rattle.placement.proofs.LeftOfChosen.{IsLeft, in_scope}

module _ (c : Cluster) (es : List Event) (chosen targets : Targets) (is : IsLeft c es chosen targets)
    (gone : (r : ℕ) (given : Role) (n : ℕ) → Held c es chosen (decision_of r given) n → holds_role targets r given n ≡ false)
    (r n : ℕ) (lt : n < length c.nodes) where
  pub colocation_yes : (col : Colocation) → holds_back (length c.nodes) targets r n (of_colocation col) ≡ true → IsHeldByColocation c es chosen r n col
  colocation_yes col h = go (is_mandatory col) refl h
    where
      go : (b : Bool) → is_mandatory col ≡ b
          → holds_back (length c.nodes) targets r n (if b then Some (from_colocation col) else None) ≡ true → IsHeldByColocation c es chosen r n col
      go true e h =
          let its = is_same_decision (Place r) (decision_of col.dependent col.dependent_role) in
          let has = has_its_primary (length c.nodes) targets (from_colocation col) n in
          record {
            mandatory = e;
            dependent = sooner its (not has) h;
            lacking = λ was. is.held col.primary col.primary_role n was
                (lacking (length c.nodes) targets (from_colocation col) n (not-true has (later its (not has) h)) n lt (λ e. refl));
          }
      go false e h = cc

  pub colocation_no : (col : Colocation) → IsHeldByColocation c es chosen r n col → holds_back (length c.nodes) targets r n (of_colocation col) ≡ true
  colocation_no col h =
      let none : has_its_primary (length c.nodes) targets (from_colocation col) n ≡ false
      = missing c es chosen targets is col.primary col.primary_role n
      (λ was. has_gone targets col.primary col.primary_role n (gone col.primary col.primary_role n (h.lacking was))) in
      rw h.mandatory (held_not (is_same_decision (Place r) (decision_of col.dependent col.dependent_role))
      (has_its_primary (length c.nodes) targets (from_colocation col) n) h.dependent none)

  pub order_yes : (o : Order) → holds_back (length c.nodes) targets r n (of_order o) ≡ true → IsHeldByOrder c es chosen r n o
  order_yes o h = go (may_hold_back o) refl h
    where
      go : (b : Bool) → may_hold_back o ≡ b → holds_back (length c.nodes) targets r n (if b then Some (from_order o) else None) ≡ true
          → IsHeldByOrder c es chosen r n o
      go true e h =
          let its = is_same_decision (Place r) (decision_of o.then_leaf (role_given o.then_op)) in
          let has = has_its_primary (length c.nodes) targets (from_order o) n in
          let two = sooner (is_mandatory_order o.kind && is_giving o.first_op) (is_giving o.then_op) e in
          let same : Place r ≡ decision_of o.then_leaf (role_given o.then_op) = same_decision (Place r) _ (sooner its (not has) h) in
          let (leaf, starts) = placed_by r o.then_leaf (role_given o.then_op) same in
          record {
            mandatory = of_kind o.kind (sooner (is_mandatory_order o.kind) (is_giving o.first_op) two);
            later = leaf;
            starts = start_of o.then_op (later (is_mandatory_order o.kind && is_giving o.first_op) (is_giving o.then_op) e) starts;
            first_gives = later (is_mandatory_order o.kind) (is_giving o.first_op) two;
            lacking = λ m low scope was. is.held o.first (role_given o.first_op) m was
                (lacking (length c.nodes) targets (from_order o) n (not-true has (later its (not has) h)) m low (in_scope o n m scope));
          }
      go false e h = cc

  pub order_no : (o : Order) → IsHeldByOrder c es chosen r n o → holds_back (length c.nodes) targets r n (of_order o) ≡ true
  order_no o h =
      let kind : is_mandatory_order o.kind ≡ true = rw h.mandatory refl in
      let holds : may_hold_back o ≡ true
      = and_from (is_mandatory_order o.kind && is_giving o.first_op) (is_giving o.then_op)
      (and_from (is_mandatory_order o.kind) (is_giving o.first_op) kind h.first_gives) (rw h.starts refl) in
      let starts : role_given o.then_op ≡ role.Started = rw h.starts refl in
      let same : is_same_decision (Place r) (decision_of o.then_leaf (role_given o.then_op)) ≡ true = rw (starts, h.later) (is_itself (Place r)) in
      let none : has_its_primary (length c.nodes) targets (from_order o) n ≡ false
      = lacked (length c.nodes) targets (from_order o) n lt (λ m low scope.
      missing c es chosen targets is o.first (role_given o.first_op) m (λ was.
      has_gone targets o.first (role_given o.first_op) m (gone o.first (role_given o.first_op) m (h.lacking m low (scoped o n m scope) was)))) in
      rw holds (held_not (is_same_decision (Place r) (decision_of o.then_leaf (role_given o.then_op))) (has_its_primary (length c.nodes) targets (from_order o) n) same none)
