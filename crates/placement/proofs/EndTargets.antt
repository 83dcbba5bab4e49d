-- What is left when no dependency takes more away are the targets in the end.
use Rattle.std.proofs.Common.{arith, ◌≡◌, ◌==◌, ◌&&◌, ◌||◌, not, ℕ, Bool, true, false, Option, List, refl, ap, Contains, length, map}
use Rattle.std.specs.List.{range_with_len}
use Rattle.std.proofs.lemmas.Bool.{and_from, false_from_ne_true}
use Rattle.cluster_types.specs.declared.cluster.Cluster.{Cluster}
use Rattle.cluster_types.specs.declared.journal.Event.{Event}
use Rattle.cluster_types.specs.declared.leaf.Role.{Role}
use Rattle.cluster_types.specs.declared.leaf.Role.TheVariants as role
use Rattle.cluster_types.specs.declared.placement.Decision.{Decision}
use Rattle.cluster_types.specs.declared.placement.Decision.TheVariants.{Place, Promote}
use Rattle.cluster_types.specs.declared.placement.Pin.{Pin}
use Rattle.cluster_types.specs.declared.placement.Target.{Target}
use Rattle.cluster_types.specs.declared.placement.Target.TheVariants as target
use Rattle.cluster_types.specs.declared.rules.Colocation.{Colocation}
use Rattle.cluster_types.specs.declared.rules.Order.{Order}
use Rattle.cluster_types.specs.Decisions.{decision_of}
use Rattle.cluster_types.specs.Held.{AreTargets, ColocationCanHoldBack, Held, IsFinalTarget, LacksFirst, LacksPrimary, OrderCanHoldBack}
use Rattle.cluster_types.specs.LeastSets.{IsClosedUnderHolding}
use Rattle.cluster_types.specs.Pins.{pin_of}
use Rattle.cluster_types.specs.Precedence.{is_mandatory_order, is_giving, role_given}
use Rattle.cluster_types.specs.Tables.{Targets, holds_role, is_in_scope, is_promoted_target, is_somewhere}
use Rattle.cluster_types.proofs.LeastSets.{held-least}
use Rattle.cluster_types.proofs.TableCells.{promoted_somewhere}
use Rattle.plan_laws.proofs.MadeOnes.{never_both}
use Rattle.placement.specs.declared.held_targets.dependencies.Dependency.{Dependency}
use Rattle.placement.specs.Inner.Dependencies.{dependencies_by, from_colocation, from_order, may_hold_back}
use Rattle.placement.specs.Inner.Taking.{IsRuleSettled, has_its_primary}
use Rattle.placement.proofs.Lacking.{lacked, not_both}
use Rattle.placement.proofs.LeftOfChosen.{IsLeft}
use Rattle.placement.proofs.RuleOrigins.{colocation_there, order_there}

-- the role that the decision gives isn't held on the node
abbrev pub HasGone : Targets → Decision → ℕ → Type 0
HasGone left (Place r) n = holds_role left r role.Started n ≡ false
HasGone left (Promote r) n = holds_role left r role.Promoted n ≡ false

pub has_gone : (left : Targets) (r : ℕ) (given : Role) (n : ℕ) → holds_role left r given n ≡ false → HasGone left (decision_of r given) n
has_gone left r role.Started n h = h
has_gone left r role.Promoted n h = h

pub not_held : (left : Targets) (r : ℕ) (given : Role) (n : ℕ) → HasGone left (decision_of r given) n → holds_role left r given n ≡ false
not_held left r role.Started n h = h
not_held left r role.Promoted n h = h

pub scoped : (o : Order) (n m : ℕ) → (o.local ≡ true → n ≡ m) → is_in_scope o n m ≡ true
scoped o n m same = go o.local refl
  where
    go : (b : Bool) → o.local ≡ b → not b || n == m ≡ true
    go true e = let f : n ≡ m = same e in grind arith
    go false e = refl

module _ (c : Cluster) (es : List Event) (chosen left : Targets) (is : IsLeft c es chosen left) where
  -- what isn't left of the chosen targets, and what was never chosen, isn't held
  pub missing : (r : ℕ) (given : Role) (n : ℕ) → (holds_role chosen r given n ≡ true → HasGone left (decision_of r given) n) → holds_role left r given n ≡ false
  missing r given n gone =
      false_from_ne_true (holds_role left r given n) (λ h.
      never_both (holds_role left r given n) h (not_held left r given n (gone (is.within r given n h))))

  module _ (pins : List (Option Pin)) (are : pins ≡ map (pin_of c es) (range_with_len 0 (length c.leaves)))
      (settled : (rule : Dependency) → Contains (dependencies_by c pins) rule → IsRuleSettled (length c.nodes) left rule) where
    by_an_order : (o : Order) (n : ℕ) → OrderCanHoldBack c es chosen o n → LacksFirst c es chosen (HasGone left) o n
        → HasGone left (decision_of o.then_leaf (role_given o.then_op)) n
    by_an_order o n may lacks =
        let kind : is_mandatory_order o.kind ≡ true = rw may.mandatory refl in
        let holds : may_hold_back o ≡ true
        = and_from (is_mandatory_order o.kind && is_giving o.first_op) (is_giving o.then_op)
        (and_from (is_mandatory_order o.kind) (is_giving o.first_op) kind may.first_gives) may.then_gives in
        let rule : Dependency = from_order o in
        let none : has_its_primary (length c.nodes) left rule n ≡ false
        = lacked (length c.nodes) left rule n may.within (λ m low scope. missing o.first (role_given o.first_op) m (lacks m low (scoped o n m scope))) in
        has_gone left o.then_leaf (role_given o.then_op) n
        (not_both (holds_role left rule.dependent rule.dependent_role n) (has_its_primary (length c.nodes) left rule n)
        (settled rule (order_there c es pins are o may.present holds may.not_pinned) n may.within) none)

    by_a_colocation : (col : Colocation) (n : ℕ) → ColocationCanHoldBack c es chosen col n → LacksPrimary c es chosen (HasGone left) col n
        → HasGone left (decision_of col.dependent col.dependent_role) n
    by_a_colocation col n may lacks =
        let rule : Dependency = from_colocation col in
        let none : has_its_primary (length c.nodes) left rule n ≡ false
        = missing col.primary col.primary_role n lacks in
        has_gone left col.dependent col.dependent_role n
        (not_both (holds_role left rule.dependent rule.dependent_role n) (has_its_primary (length c.nodes) left rule n)
        (settled rule (colocation_there c es pins are col may.present may.mandatory may.not_pinned) n may.within) none)

    closed : IsClosedUnderHolding c es chosen (HasGone left)
    closed = record {
      by_order = by_an_order;
      by_colocation = by_a_colocation;
      by_place = λ r n promoted gone.
          false_from_ne_true (holds_role left r role.Promoted n) (λ h.
          never_both (holds_role left r role.Started n) (promoted_somewhere (left r n) h) gone);
    }

    held_has_gone : (d : Decision) (n : ℕ) → Held c es chosen d n → HasGone left d n
    held_has_gone d n h = held-least c es chosen (HasGone left) closed d n h

    kept : (r n : ℕ) (t : Target) → left r n ≡ t → IsFinalTarget c es chosen r n t
    kept r n target.Nowhere e = λ h. is.held r role.Started n h (ap is_somewhere e)
    kept r n target.Started e = (
      is.within r role.Started n (ap is_somewhere e),
      (λ h. never_both (is_somewhere (left r n)) (ap is_somewhere e) (held_has_gone (Place r) n h)),
      λ h. is.held r role.Promoted n h (ap is_promoted_target e),
    )
    kept r n target.Promoted e = (
      is.within r role.Promoted n (ap is_promoted_target e),
      λ h. never_both (is_promoted_target (left r n)) (ap is_promoted_target e) (held_has_gone (Promote r) n h),
    )

    pub are_targets : AreTargets c es chosen left
    are_targets r n low within = kept r n (left r n) refl
