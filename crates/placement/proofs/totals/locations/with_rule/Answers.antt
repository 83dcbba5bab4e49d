use Rattle.std.proofs.Common.{rules, ◌≡◌, ◌==◌, ◌&&◌, ◌||◌, true, ap, ◌∙◌, sym, arith}
use Rattle.score.specs.NodeSet.{has}
use Rattle.placement.specs.Locations.{rule_holds_by}
use Rattle.placement.proofs.totals.locations.with_rule.Goals as goal

pub of-requires-clause-passes : goal.of-requires-clause-passes
of-requires-clause-passes c = λ n low κs p e r d. omega (arith, low, c.len.ensures, c.requires)

pub returns : goal.returns
returns c = λ n low.
    let passed = c.of.ensures.passed n (omega (arith, low, c.len.ensures)) in
    let is : has c.of.result n ≡ (has c.args.named n || rule_holds_by c.args.cluster.now c.args.moment c.args.rule.now n) = search rules in
    let same : (c.args.rule.now.leaf == c.args.leaf) ≡ true = grind (arith, c.if-rule-leaf.false) in
    is ∙ ap (λ b. has c.args.named n || (b && rule_holds_by c.args.cluster.now c.args.moment c.args.rule.now n)) (sym same)
