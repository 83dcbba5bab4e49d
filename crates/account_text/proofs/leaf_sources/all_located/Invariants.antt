use Rattle.std.proofs.Common.{◌≡◌, ◌==◌, filter, take}
use Rattle.account_text.specs.Inner.Sources.{lent_values}
use Rattle.account_text.proofs.leaf_sources.all_located.Given as goal

abbrev pub invariant-loop-rule : goal.invariant-loop-rule
invariant-loop-rule l = lent_values l.all.items ≡ filter (λ x. x.leaf == l.leaf) (take l.rule-index l.rule-items)
