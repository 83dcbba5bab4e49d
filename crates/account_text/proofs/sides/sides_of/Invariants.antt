use Rattle.std.proofs.Common.{take}
use Rattle.account_text.specs.Inner.Sides.{AreColocationsOf}
use Rattle.account_text.proofs.sides.sides_of.Given as goal

abbrev pub invariant-loop-rule : goal.invariant-loop-rule
invariant-loop-rule l = AreColocationsOf l.decision (take l.rule-index l.rule-items) l.sides.items
