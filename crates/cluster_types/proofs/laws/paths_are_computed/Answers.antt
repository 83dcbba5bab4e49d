use Rattle.cluster_types.proofs.Paths.{before-from_computed, before-computed}
use Rattle.cluster_types.proofs.laws.paths_are_computed.Goals as goal

pub returns : goal.returns
returns c = λ g x y graph. (before-from_computed g x y, before-computed g x y graph)
