use Rattle.std.proofs.Common.{◌≡◌}
use Rattle.std.specs.List.{flat_map, range_with_len}
use Rattle.cluster_types.specs.Numbers.{leaf_links}
use Rattle.loops.specs.Inner.Edges.{edges_of}
use Rattle.loops.proofs.orders.leaf_edges.Given as goal

abbrev pub invariant-loop-leaf : goal.invariant-loop-leaf
invariant-loop-leaf l = l.edges.items ≡ edges_of l.cluster (flat_map leaf_links (range_with_len 0 l.leaf))
