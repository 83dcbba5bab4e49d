use Rattle.score.specs.Inner.Choice.{IsGreatestSoFar}
use Rattle.score.proofs.greatest_node.greatest_from.Given as goal

abbrev pub invariant-loop-node : goal.invariant-loop-node
invariant-loop-node l = IsGreatestSoFar l.totals l.loads l.among l.node l.best
