use Rattle.std.proofs.Common.{length, sym, subst, arith, Contains}
use Rattle.std.proofs.lemmas.List.Elements.{Contains-get_or}
use Rattle.cluster_types.specs.declared.rules.Colocation.{Colocation}
use Rattle.placement.specs.Inner.Links.{rule_links}
use Rattle.lemmas.proofs.Grown.{elements_more}
use Rattle.placement.proofs.SameDecisions.{role-within}
use Rattle.placement.proofs.order.links.push_rule_links.Goals as goal

pub push_rule_link-requires-clause-primary : goal.push_rule_link-requires-clause-primary
push_rule_link-requires-clause-primary c =
    let cluster = c.args.set.now.cluster.now in
    let items = c.as_slice-rule-items.result.now in
    let rule : Colocation = c.rule-item.result in
    let within : Contains items rule = subst (Contains items) (sym c.rule-item.is) (Contains-get_or items c.loop-rule.rule-index rule c.loop-rule-test.true) in
    let valid = c.requires.valid.colocations rule (subst (λ xs. Contains xs rule) c.as_slice-rule-items.ensures within) in
    let low = role-within cluster rule.primary rule.primary_role valid.primary in
    let few = c.args.set.now.limits.leaves in
    omega (arith, low, few)

pub push_rule_link-requires-clause-dependent : goal.push_rule_link-requires-clause-dependent
push_rule_link-requires-clause-dependent c =
    let cluster = c.args.set.now.cluster.now in
    let items = c.as_slice-rule-items.result.now in
    let rule : Colocation = c.rule-item.result in
    let within : Contains items rule = subst (Contains items) (sym c.rule-item.is) (Contains-get_or items c.loop-rule.rule-index rule c.loop-rule-test.true) in
    let valid = c.requires.valid.colocations rule (subst (λ xs. Contains xs rule) c.as_slice-rule-items.ensures within) in
    let low = role-within cluster rule.dependent rule.dependent_role valid.dependent in
    let few = c.args.set.now.limits.leaves in
    omega (arith, low, few)

pub loop-rule-preserved : goal.loop-rule-preserved
loop-rule-preserved c =
    let l = c.loop-rule in
    let set = c.args.set.now in
    let cluster = set.cluster.now in
    let items = c.as_slice-rule-items.result.now in
    let rule : Colocation = c.rule-item.result in
    let within : Contains items rule = subst (Contains items) (sym c.rule-item.is) (Contains-get_or items l.rule-index rule c.loop-rule-test.true) in
    let valid = c.requires.valid.colocations rule (subst (λ xs. Contains xs rule) c.as_slice-rule-items.ensures within) in
    let low = role-within cluster rule.primary rule.primary_role valid.primary in
    elements_more (rule_links set.list.items) items l.rule-index rule c.args.links.now.items l.links.items c.push_rule_link.new.links.items c.loop-rule-test.true c.rule-item.is
    l.invariant (c.in_ok-push_rule_link.ensures (length cluster.leaves) set.list.items c.requires.decided low)
