use Rattle.listed.proofs.Trees.{Changes}
use Rattle.listed.proofs.counting.one_less.Given as goal

abbrev pub invariant-loop-node : goal.invariant-loop-node
invariant-loop-node l = Changes 0 1 l.leaves l.initial.counts l.counts l.node

abbrev pub decreases-loop-node : goal.decreases-loop-node
decreases-loop-node l = l.node
