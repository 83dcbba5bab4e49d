use Rattle.loops.proofs.LinkEdges.{leaf_then}
use Rattle.loops.proofs.orders.leaf_edges.Goals as goal

pub loop-leaf-preserved : goal.loop-leaf-preserved
loop-leaf-preserved c = leaf_then c.args.cluster.now c.loop-leaf.leaf _ _ c.loop-leaf.invariant c.in_ok-push_leaf.ensures
