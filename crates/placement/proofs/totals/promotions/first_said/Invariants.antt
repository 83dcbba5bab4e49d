use Rattle.std.proofs.Common.{take}
use Rattle.placement.specs.Promotions.{AreSaid}
use Rattle.placement.proofs.totals.promotions.first_said.Given as goal

abbrev pub invariant-loop-promotion : goal.invariant-loop-promotion
invariant-loop-promotion l = AreSaid l.cluster (take l.promotion-index l.promotions) l.said.items
