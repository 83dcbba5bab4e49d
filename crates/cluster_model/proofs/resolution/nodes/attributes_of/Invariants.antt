use Rattle.std.proofs.Common.{◌≡◌, take, map}
use Rattle.cluster_model.specs.Nodes.{attribute_of}
use Rattle.cluster_model.proofs.resolution.nodes.attributes_of.Given as goal

abbrev pub invariant-loop-pair : goal.invariant-loop-pair
invariant-loop-pair l = l.attributes ≡ map attribute_of (take l.pair-index l.pairs)
