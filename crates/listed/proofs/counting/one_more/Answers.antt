use Rattle.std.proofs.Common.{◌+◌, slice_index_or, arith}
use Rattle.listed.proofs.Trees.{changes_begin, changes_on, changed}
use Rattle.listed.proofs.counting.one_more.Goals as goal

pub loop-node-init : goal.loop-node-init
loop-node-init c =
    changes_begin 1 0 c.args.leaves c.args.counts.now c.args.leaf (slice_index_or c.args.counts.now c.args.leaf 0 + 1)
    c.requires.tree c.requires.from c.requires.to (omega arith)

pub loop-node-preserved : goal.loop-node-preserved
loop-node-preserved c =
    changes_on 1 0 c.args.leaves _ c.loop-node.counts c.loop-node.node (slice_index_or c.loop-node.counts c.loop-node.node 0 + 1)
    c.loop-node.invariant c.loop-node-test.true (omega arith)

pub returns-clause-tree : goal.returns-clause-tree
returns-clause-tree c = changed 1 0 c.args.leaves _ _ c.loop-node.node (omega arith) c.loop-node.invariant

pub returns-clause-leaves : goal.returns-clause-leaves
returns-clause-leaves c = c.loop-node.invariant.at_leaves
