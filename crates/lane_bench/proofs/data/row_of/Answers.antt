use Rattle.std.proofs.Common.{◌∙◌}
use Rattle.score.proofs.SmallRows.{small_put}
use Rattle.lane_bench.proofs.data.row_of.Goals as goal

pub loop-node-preserved : goal.loop-node-preserved
loop-node-preserved c = record {
  nodes = c.put.ensures.nodes ∙ c.loop-node.invariant.nodes;
  small = small_put c.loop-node.row c.put.new.self c.loop-node.node c.loop-node.node c.score_of.result c.score_of.ensures c.loop-node.invariant.small c.put.ensures.finite c.put.ensures.others;
}
