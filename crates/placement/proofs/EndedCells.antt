-- Of the targets in the end: what is left was chosen, what isn't left is held, and what is held isn't left.
use Rattle.std.proofs.Common.{◌≡◌, ◌<◌, ◌&&◌, not, nat_lt, ℕ, Bool, true, false, List, refl, sym, ◌∙◌, ap, length}
use Rattle.std.proofs.lemmas.Bool.{false_from_ne_true, ltb-true, not-true}
use Rattle.lemmas.proofs.Booleans.{later, sooner}
use Rattle.cluster_types.specs.declared.cluster.Cluster.{Cluster}
use Rattle.cluster_types.specs.declared.journal.Event.{Event}
use Rattle.cluster_types.specs.declared.leaf.Role.{Role}
use Rattle.cluster_types.specs.declared.leaf.Role.TheVariants as role
use Rattle.cluster_types.specs.declared.placement.Decision.{Decision}
use Rattle.cluster_types.specs.declared.placement.Decision.TheVariants.{Place, Promote}
use Rattle.cluster_types.specs.declared.placement.Target.TheVariants as target
use Rattle.cluster_types.specs.Decisions.{decision_of}
use Rattle.cluster_types.specs.Held.{AreTargets, Held, by_colocation, by_order, by_place}
use Rattle.cluster_types.specs.Tables.{Targets, holds_role}
use Rattle.plan_laws.specs.Inner.HeldMarks.{MarkedDecisions}
use Rattle.plan_laws.proofs.HeldReason as held_rule
use Rattle.plan_laws.proofs.KeptTargets as kept_targets
use Rattle.plan_laws.proofs.MadeOnes.{never_both}
use Rattle.plan_laws.proofs.StayHeld.{has, holds_is, nowhere_has_none}
use Rattle.plan_laws.proofs.TablesWithin.{StaysWithin, is_cell}
use Rattle.placement.proofs.Lacking.{held_not}
use Rattle.placement.proofs.LeftOfChosen.{IsLeft}
use Rattle.cluster_types.specs.Precedence.{role_given}

-- a role is held only in a cell of the cluster
on_cell : (c : Cluster) (table : Targets) → StaysWithin c table → (r : ℕ) (given : Role) (n : ℕ) → holds_role table r given n ≡ true
    → (r < length c.leaves) × (n < length c.nodes)
on_cell c table inside r given n h = go (is_cell c r n) refl
  where
    go : (b : Bool) → is_cell c r n ≡ b → (r < length c.leaves) × (n < length c.nodes)
    go true e = (
      ltb-true r (length c.leaves) (sooner (nat_lt r (length c.leaves)) (nat_lt n (length c.nodes)) e),
      ltb-true n (length c.nodes) (later (nat_lt r (length c.leaves)) (nat_lt n (length c.nodes)) e),
    )
    go false e =
        absurd (never_both (has given target.Nowhere) (ap (has given) (sym (inside r n e)) ∙ (sym (holds_is table r given n) ∙ h)) (nowhere_has_none given))

module _ (c : Cluster) (es : List Event) (chosen targets : Targets) (inside : StaysWithin c chosen) (also : StaysWithin c targets)
    (are : AreTargets c es chosen targets) where
  pub ended : IsLeft c es chosen targets
  ended = record {
    within = λ r given n h.
        let (low, lt) = on_cell c targets also r given n h in
        kept_targets.chosen c es chosen targets r n given (are r n low lt) h;
    held = λ r given n was now.
        let (low, lt) = on_cell c chosen inside r given n was in
        kept_targets.back c es chosen targets r n given (are r n low lt) was now;
  }

  pub held_gone : (r : ℕ) (given : Role) (n : ℕ) → Held c es chosen (decision_of r given) n → holds_role targets r given n ≡ false
  held_gone r given n held =
      false_from_ne_true (holds_role targets r given n) (λ h.
      let (low, lt) = on_cell c targets also r given n h in
      kept_targets.free c es chosen targets r n given (are r n low lt) h held)

  -- a place that is held is held by a rule

  pub marks : MarkedDecisions
  marks (Place r) n = holds_role chosen r role.Started n && not (holds_role targets r role.Started n)
  marks (Promote r) n = holds_role chosen r role.Promoted n && not (holds_role targets r role.Promoted n)

  pub sound : (d : Decision) (n : ℕ) → marks d n ≡ true → Held c es chosen d n
  unfolding marks
  sound (Place r) n h =
      ended.held r role.Started n (sooner (holds_role chosen r role.Started n) (not (holds_role targets r role.Started n)) h)
      (not-true (holds_role targets r role.Started n) (later (holds_role chosen r role.Started n) (not (holds_role targets r role.Started n)) h))
  sound (Promote r) n h =
      ended.held r role.Promoted n (sooner (holds_role chosen r role.Promoted n) (not (holds_role targets r role.Promoted n)) h)
      (not-true (holds_role targets r role.Promoted n) (later (holds_role chosen r role.Promoted n) (not (holds_role targets r role.Promoted n)) h))

  marked_role : (r : ℕ) (given : Role) (n : ℕ) → holds_role chosen r given n ≡ true → holds_role targets r given n ≡ false → marks (decision_of r given) n ≡ true
  unfolding marks
  marked_role r role.Started n was now = held_not (holds_role chosen r role.Started n) (holds_role targets r role.Started n) was now
  marked_role r role.Promoted n was now = held_not (holds_role chosen r role.Promoted n) (holds_role targets r role.Promoted n) was now

  pub marked : (d : Decision) (n : ℕ) → Held c es chosen d n → marks d n ≡ true
  marked _ _ (by_order o n may lacks) =
      marked_role o.then_leaf (role_given o.then_op) n may.chosen (held_gone o.then_leaf (role_given o.then_op) n (by_order o n may lacks))
  marked _ _ (by_colocation col n may lacks) =
      marked_role col.dependent col.dependent_role n may.chosen (held_gone col.dependent col.dependent_role n (by_colocation col n may lacks))
  marked _ _ (by_place r n promoted held) = marked_role r role.Promoted n promoted (held_gone r role.Promoted n (by_place r n promoted held))

  pub rule_of : (r n : ℕ) → Held c es chosen (Place r) n → held_rule.RuleOf c es chosen marks sound marked r n
  rule_of r n held = held_rule.held_by_rule c es chosen marks sound marked r n held
