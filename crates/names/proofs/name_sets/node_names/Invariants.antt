use Rattle.std.proofs.Common.{◌≡◌, take}
use Rattle.names.specs.Sets.{borrowed_names, node_names}
use Rattle.names.proofs.name_sets.node_names.Given as goal

abbrev pub invariant-loop-node : goal.invariant-loop-node
invariant-loop-node l = borrowed_names l.names ≡ node_names (take l.node-index l.nodes)
