use Rattle.std.proofs.Common.{length, take}
use Rattle.cluster_types.specs.Decisions.{is_among}
use Rattle.placement.specs.Inner.Flags.{AreFlags}
use Rattle.placement.proofs.order.links.decided.Given as goal

abbrev pub invariant-loop-decision : goal.invariant-loop-decision
invariant-loop-decision l = AreFlags (length l.set.cluster.now.leaves) (is_among (take l.decision-index l.decision-items)) l.flags.items
