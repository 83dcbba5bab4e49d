use Rattle.std.proofs.Common.{Contains, take}
use Rattle.cluster_types.specs.declared.rules.Colocation.{Colocation}
use Rattle.loops.specs.FirstLoops.{JoinsLeaves}
use Rattle.loops.proofs.colocations.joins_leaves.Given as goal

abbrev pub invariant-loop-colocation : goal.invariant-loop-colocation
invariant-loop-colocation l = (col : Colocation) → Contains (take l.colocation-index l.cluster.colocations) col → JoinsLeaves l.cluster col
