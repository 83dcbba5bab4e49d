use Rattle.edges.proofs.BackwardSteps.{AreMeasured}
use Rattle.edges.proofs.measuring.longest_ways.Given as goal

abbrev pub invariant-loop-left : goal.invariant-loop-left
invariant-loop-left l = AreMeasured l.positions l.edges l.order.items l.left l.ways.items

abbrev pub decreases-loop-left : goal.decreases-loop-left
decreases-loop-left l = l.left
