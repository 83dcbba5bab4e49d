use Rattle.std.proofs.Common.{◌≡◌, ◌++◌}
use Rattle.cluster_types.specs.Journals.{leaving}
use Rattle.input_reading.specs.FirstJournal.{word_of}
use Rattle.input_reading.proofs.Leaving.{one_leaves}
use Rattle.input_reading.proofs.status.first_journal.add_leavings.Goals as goal

pub loop-node-preserved : goal.loop-node-preserved
loop-node-preserved c =
    let said = c.word_of.ensures in
    let added = c.in_ok-add_leaving.ensures in
    let later : c.add_leaving.new.events ≡ c.loop-node.events ++ leaving c.args.cluster.now (c.loop-node.node, word_of c.args.told.now c.loop-node.node) = cc in
    one_leaves c.args.cluster.now c.args.told.now _ c.loop-node.events c.add_leaving.new.events c.loop-node.node c.len-nodes.result c.loop-node-test.true c.loop-node.invariant later
