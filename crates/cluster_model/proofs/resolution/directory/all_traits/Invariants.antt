use Rattle.std.proofs.Common.{◌≡◌, take, map}
use Rattle.cluster_model.specs.Inner.Directories.{traits_of}
use Rattle.cluster_model.proofs.resolution.directory.all_traits.Given as goal

abbrev pub invariant-loop-leaf : goal.invariant-loop-leaf
invariant-loop-leaf l = l.all ≡ map (traits_of l.groups) (take l.leaf-index l.leaves)
