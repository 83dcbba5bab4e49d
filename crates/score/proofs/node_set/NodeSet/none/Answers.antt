use Rattle.std.proofs.Common.{◌/◌, ◌%◌}
use Rattle.score.specs.NodeSet.{has}
use Rattle.score.proofs.Words.{none_set}
use Rattle.score.proofs.node_set.NodeSet.none.Goals as goal

pub returns : goal.returns
unfolding has
returns c = λ n. none_set (n / 64) (n % 64)
