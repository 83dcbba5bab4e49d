use Rattle.std.proofs.Common.{◌≡◌, take}
use Rattle.cluster_model.proofs.resolution.copies.copy_leaves.Given as goal

abbrev pub invariant-loop-leaf : goal.invariant-loop-leaf
invariant-loop-leaf l = l.copies ≡ take l.leaf-index l.leaves
