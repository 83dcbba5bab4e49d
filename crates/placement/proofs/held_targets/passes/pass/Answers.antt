use Rattle.std.proofs.Common.{arith, ◌≡◌, ◌≤◌, ℕ, false, refl, sym, ◌∙◌, subst, length, slice_index_or}
use Rattle.std.proofs.lemmas.List.{get_or_default, take_all}
use Rattle.lemmas.proofs.Members.{all_more, in_none}
use Rattle.cluster_types.specs.declared.leaf.Role.TheVariants as role
use Rattle.cluster_types.specs.declared.placement.Table.{Table}
use Rattle.cluster_types.specs.Tables.{targets_of}
use Rattle.placement.specs.declared.held_targets.dependencies.Dependency.{Dependency}
use Rattle.placement.specs.Inner.Taking.{IsRuleSettled, TakenAway, none_yet}
use Rattle.placement.proofs.TakenSteps.{taken_on}
use Rattle.placement.proofs.held_targets.passes.pass.Goals as goal

pub loop-rule-init : goal.loop-rule-init
loop-rule-init c = record {
  nodes = refl;
  size = refl;
  taken = none_yet (targets_of c.args.table) (λ r n. refl);
  fewer = omega arith;
  same = λ e. refl;
  settled = λ e rule among. absurd (in_none rule among);
}

pub loop-rule-preserved : goal.loop-rule-preserved
loop-rule-preserved c =
    let first = c.args.table in
    let now = c.loop-rule.left.table in
    let on = c.after-left in
    let inv = c.loop-rule.invariant in
    let rules = c.args.rules.now in
    let i = c.loop-rule.rule-index in
    let lt = c.loop-rule-test.true in
    -- what the loop reads at this place
    let rule : Dependency
    = slice_index_or rules i (record { dependent = 0; dependent_role = role.Started; primary = 0; primary_role = role.Started; local = false }) in
    let is : rule ≡ slice_index_or rules i rule = get_or_default rules i _ rule lt in
    let more = on.ensures.fewer in
    let was = inv.fewer in
    record {
      nodes = on.ensures.nodes ∙ inv.nodes;
      size = on.ensures.size ∙ inv.size;
      taken = taken_on rules first.nodes (targets_of first) (targets_of now) (targets_of on.result.table) inv.taken
          (subst (λ (n : ℕ). TakenAway rules n (targets_of now) (targets_of on.result.table)) inv.nodes (on.ensures.taken rules (i, lt, sym is)));
      fewer = omega arith;
      same = λ e. on.ensures.same e ∙ inv.same (on.ensures.unchanged e);
      settled = λ e.
          all_more (IsRuleSettled first.nodes (targets_of first)) rules i rule lt is (inv.settled (on.ensures.unchanged e))
          (subst (λ (t : Table). IsRuleSettled t.nodes (targets_of t) rule) (inv.same (on.ensures.unchanged e)) (on.ensures.settled e));
    }

pub returns-clause-settled : goal.returns-clause-settled
returns-clause-settled c = λ e rule among.
    let end : length c.args.rules.now ≤ c.loop-rule.rule-index = c.loop-rule-test.false in
    c.loop-rule.invariant.settled e rule (rw (take_all c.loop-rule.rule-index c.args.rules.now end) among)
