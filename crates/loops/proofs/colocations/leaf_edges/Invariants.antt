use Rattle.std.proofs.Common.{◌≡◌, map}
use Rattle.std.specs.List.{range_with_len}
use Rattle.loops.specs.Inner.Edges.{leaf_edge}
use Rattle.loops.proofs.colocations.leaf_edges.Given as goal

abbrev pub invariant-loop-leaf : goal.invariant-loop-leaf
invariant-loop-leaf l = l.edges.items ≡ map leaf_edge (range_with_len 0 l.leaf)
