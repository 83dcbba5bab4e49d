use Rattle.std.proofs.Common.{rules, tests}
use Rattle.std.proofs.lemmas.Iterator.{YieldsList-from_slice}
use Rattle.std.proofs.lemmas.Iterator.Search.{all_from_yields_List, any_from_yields_List}
use Rattle.date_rules.specs.Rule.{holds, passes}
use Rattle.date_rules.proofs.evaluation.holds.Goals as goal

pub returns-then-rule : goal.returns-then-rule
unfolding holds
returns-then-rule c = rw c.if-rule.true (all_from_yields_List (λ test. passes test c.args.uname.now c.args.attributes.now c.args.moment) _ _ _ c.all.ensures.ran (YieldsList-from_slice c.args.rule.now.tests cc) (λ x b q k. search (rules, tests)))

pub returns-else-rule : goal.returns-else-rule
unfolding holds
returns-else-rule c = rw c.if-rule.false (any_from_yields_List (λ test. passes test c.args.uname.now c.args.attributes.now c.args.moment) _ _ _ c.any.ensures.ran (YieldsList-from_slice c.args.rule.now.tests cc) (λ x b q k. search (rules, tests)))
