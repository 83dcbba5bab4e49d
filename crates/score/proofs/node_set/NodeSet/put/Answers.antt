use Rattle.std.proofs.Common.{rules}
use Rattle.score.specs.NodeSet.{has}
use Rattle.score.proofs.Words.{with_node}
use Rattle.score.proofs.node_set.NodeSet.put.Goals as goal

pub returns : goal.returns
unfolding has
returns c = with_node c.args.self.now.words c.args.node (search rules) c.requires
