use Rattle.std.proofs.Common.{take}
use Rattle.account_text.specs.Inner.Sources.{AreRuled}
use Rattle.account_text.proofs.leaf_sources.all_ruled.Given as goal

abbrev pub invariant-loop-rule : goal.invariant-loop-rule
invariant-loop-rule l = AreRuled l.cluster l.moment (take l.rule-index l.rule-items) l.leaf l.all.items
