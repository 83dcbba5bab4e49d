-- What is left was chosen, and what isn't left is held.
use Rattle.std.proofs.Common.{◌≡◌, ◌<◌, ◌==◌, ◌&&◌, not, ℕ, Bool, true, false, Option, List, inl, inr, refl, sym, ◌∙◌, subst, Contains, length, map}
use Rattle.std.proofs.lemmas.Bool.{eqb-true, not-true}
use Rattle.std.specs.List.{range_with_len}
use Rattle.lemmas.proofs.Booleans.{implied, later, sooner}
use Rattle.cluster_types.specs.declared.cluster.Cluster.{Cluster}
use Rattle.cluster_types.specs.declared.journal.Event.{Event}
use Rattle.cluster_types.specs.declared.leaf.Role.{Role}
use Rattle.cluster_types.specs.declared.leaf.Role.TheVariants as role
use Rattle.cluster_types.specs.declared.placement.Decision.TheVariants.{Place}
use Rattle.cluster_types.specs.declared.placement.Pin.{Pin}
use Rattle.cluster_types.specs.declared.rules.Colocation.{Colocation}
use Rattle.cluster_types.specs.declared.rules.Order.{Order}
use Rattle.cluster_types.specs.Choice.{is_mandatory}
use Rattle.cluster_types.specs.Decisions.{decision_of}
use Rattle.cluster_types.specs.Held.{Held, by_colocation, by_order, by_place}
use Rattle.cluster_types.specs.Pins.{is_pinned, pin_of}
use Rattle.cluster_types.specs.Precedence.{is_mandatory_order, is_giving, role_given}
use Rattle.cluster_types.specs.Tables.{Targets, holds_role, is_in_scope}
use Rattle.cluster_types.proofs.OpLaws.{of_kind}
use Rattle.plan_laws.proofs.MadeOnes.{never_both}
use Rattle.placement.specs.declared.held_targets.dependencies.Dependency.{Dependency}
use Rattle.placement.specs.Inner.Dependencies.{dependencies_by, from_colocation, from_order, may_hold_back}
use Rattle.placement.specs.Inner.Taking.{TakenAway, has_its_primary, none_yet, one_more, takes, without}
use Rattle.placement.proofs.Lacking.{lacking}
use Rattle.placement.proofs.RolesTaken.{Gone, gone, lowered}
use Rattle.placement.proofs.RuleOrigins.{Origin, a_colocation, an_order, origin}
use Rattle.placement.proofs.TakenSteps.{role_alike, takes_held}

-- nothing is left that wasn't chosen, and what isn't left is held
pub record IsLeft (c : Cluster) (es : List Event) (chosen left : Targets) : Type 0 where
  pub within : (r : ℕ) (given : Role) (n : ℕ) → holds_role left r given n ≡ true → holds_role chosen r given n ≡ true
  pub held : (r : ℕ) (given : Role) (n : ℕ) → holds_role chosen r given n ≡ true → holds_role left r given n ≡ false
      → Held c es chosen (decision_of r given) n

-- a node in the scope of an order
pub in_scope : (o : Order) (n m : ℕ) → is_in_scope o n m ≡ true → o.local ≡ true → n ≡ m
in_scope o n m scope local = eqb-true n m (implied o.local (n == m) scope local)

module _ (c : Cluster) (es : List Event) (pins : List (Option Pin)) (are : pins ≡ map (pin_of c es) (range_with_len 0 (length c.leaves))) (chosen : Targets) where
  module _ (left : Targets) (is : IsLeft c es chosen left) (n : ℕ) (lt : n < length c.nodes) where
    by_a_colocation : (col : Colocation) → Contains c.colocations col → is_mandatory col ≡ true → is_pinned c es col.dependent ≡ false
        → takes (length c.nodes) left (from_colocation col) n ≡ true → Held c es chosen (decision_of col.dependent col.dependent_role) n
    by_a_colocation col among mandatory free taken =
        let rule : Dependency = from_colocation col in
        let there = takes_held (length c.nodes) left rule n taken in
        let none : has_its_primary (length c.nodes) left rule n ≡ false
        = not-true (has_its_primary (length c.nodes) left rule n) (later (holds_role left rule.dependent rule.dependent_role n) (not (has_its_primary (length c.nodes) left rule n)) taken) in
        by_colocation col n
        (record { present = among; mandatory = mandatory; not_pinned = free; within = lt; chosen = is.within col.dependent col.dependent_role n there })
        (λ was. is.held col.primary col.primary_role n was (lacking (length c.nodes) left rule n none n lt (λ e. refl)))

    by_an_order : (o : Order) → Contains c.orders o → may_hold_back o ≡ true → is_pinned c es o.then_leaf ≡ false
        → takes (length c.nodes) left (from_order o) n ≡ true → Held c es chosen (decision_of o.then_leaf (role_given o.then_op)) n
    by_an_order o among holds free taken =
        let rule : Dependency = from_order o in
        let there = takes_held (length c.nodes) left rule n taken in
        let none : has_its_primary (length c.nodes) left rule n ≡ false
        = not-true (has_its_primary (length c.nodes) left rule n) (later (holds_role left rule.dependent rule.dependent_role n) (not (has_its_primary (length c.nodes) left rule n)) taken) in
        let two = sooner (is_mandatory_order o.kind && is_giving o.first_op) (is_giving o.then_op) holds in
        by_order o n
        (record {
          present = among;
          mandatory = of_kind o.kind (sooner (is_mandatory_order o.kind) (is_giving o.first_op) two);
          first_gives = later (is_mandatory_order o.kind) (is_giving o.first_op) two;
          then_gives = later (is_mandatory_order o.kind && is_giving o.first_op) (is_giving o.then_op) holds;
          not_pinned = free;
          within = lt;
          chosen = is.within o.then_leaf (role_given o.then_op) n there;
        })
        (λ m low scope was. is.held o.first (role_given o.first_op) m was (lacking (length c.nodes) left rule n none m low (in_scope o n m scope)))

    -- what a dependency takes is held
    rule_holds : (rule : Dependency) → Contains (dependencies_by c pins) rule → takes (length c.nodes) left rule n ≡ true
        → Held c es chosen (decision_of rule.dependent rule.dependent_role) n
    rule_holds rule among taken = go rule (origin c es pins are rule among) taken
      where
        go : (rule : Dependency) → Origin c es pins are rule → takes (length c.nodes) left rule n ≡ true
            → Held c es chosen (decision_of rule.dependent rule.dependent_role) n
        go rule (a_colocation col there mandatory free same) taken =
            subst (λ (x : Dependency). Held c es chosen (decision_of x.dependent x.dependent_role) n) same
            (by_a_colocation col there mandatory free (subst (λ (x : Dependency). takes (length c.nodes) left x n ≡ true) (sym same) taken))
        go rule (an_order o there holds free same) taken =
            subst (λ (x : Dependency). Held c es chosen (decision_of x.dependent x.dependent_role) n) same
            (by_an_order o there holds free (subst (λ (x : Dependency). takes (length c.nodes) left x n ≡ true) (sym same) taken))

  of_gone : (rule : Dependency) (n : ℕ) → Held c es chosen (decision_of rule.dependent rule.dependent_role) n → (r : ℕ) (given : Role) (m : ℕ)
      → holds_role chosen r given m ≡ true → Gone rule.dependent rule.dependent_role n r given m → Held c es chosen (decision_of r given) m
  of_gone rule n held r given m was g = elim g.which [
    | inl same ↦ rw (g.leaf, g.node, same) held
    | inr both ↦
        let (started, promoted) = both in
        let place : Held c es chosen (Place rule.dependent) n = subst (λ (x : Role). Held c es chosen (decision_of rule.dependent x) n) started held in
        let too : holds_role chosen r role.Promoted m ≡ true = subst (λ (x : Role). holds_role chosen r x m ≡ true) promoted was in
        subst (λ (x : Role). Held c es chosen (decision_of r x) m) (sym promoted) (by_place r m too (rw (g.leaf, g.node) place))
  ]

  one_step : (before left : Targets) (rule : Dependency) (n : ℕ) → IsLeft c es chosen before → Contains (dependencies_by c pins) rule → n < length c.nodes
      → takes (length c.nodes) before rule n ≡ true
      → ((r m : ℕ) → left r m ≡ without before rule.dependent rule.dependent_role n r m) → IsLeft c es chosen left
  one_step before left rule n is among lt taken made =
      let there = takes_held (length c.nodes) before rule n taken in
      let held = rule_holds before is n lt rule among taken in
      record {
        within = λ r given m h. is.within r given m (lowered before left rule.dependent rule.dependent_role n there made r given m h);
        held = λ r given m was now. by_last r given m was now held (holds_role before r given m) refl;
      }
    where
      by_last : (r : ℕ) (given : Role) (m : ℕ) → holds_role chosen r given m ≡ true → holds_role left r given m ≡ false
          → Held c es chosen (decision_of rule.dependent rule.dependent_role) n → (b : Bool) → holds_role before r given m ≡ b
          → Held c es chosen (decision_of r given) m
      by_last r given m was now held true e =
          of_gone rule n held r given m was
          (gone before left rule.dependent rule.dependent_role n (takes_held (length c.nodes) before rule n taken) made r given m e now)
      by_last r given m was now held false e = is.held r given m was e

  -- so it is after all steps
  pub left_of_chosen : (left : Targets) → TakenAway (dependencies_by c pins) (length c.nodes) chosen left → IsLeft c es chosen left
  left_of_chosen _ (none_yet left same) = record {
    within = λ r given n h. sym (role_alike left chosen r given n (same r n)) ∙ h;
    held = λ r given n was now. absurd (never_both (holds_role left r given n) (role_alike left chosen r given n (same r n) ∙ was) now);
  }
  left_of_chosen _ (one_more before left rule n taken among lt takes made) =
      one_step before left rule n (left_of_chosen before taken) among lt takes made
