use Rattle.std.proofs.Common.{◌≡◌, take}
use Rattle.names.specs.Sets.{borrowed_names, leaf_names}
use Rattle.names.proofs.name_sets.leaf_names.Given as goal

abbrev pub invariant-loop-leaf : goal.invariant-loop-leaf
invariant-loop-leaf l = borrowed_names l.names ≡ leaf_names (take l.leaf-index l.leaves)
