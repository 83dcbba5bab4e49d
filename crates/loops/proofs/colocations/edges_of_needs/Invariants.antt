use Rattle.std.proofs.Common.{◌≡◌, ◌++◌, length, map, take}
use Rattle.loops.specs.Inner.Edges.{colocation_edge, leaf_edges}
use Rattle.loops.proofs.colocations.edges_of_needs.Given as goal

abbrev pub invariant-loop-colocation : goal.invariant-loop-colocation
invariant-loop-colocation l =
    l.edges.items ≡ leaf_edges (length l.cluster.leaves) ++ map colocation_edge (take l.colocation-index l.cluster.colocations)
