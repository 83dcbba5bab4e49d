use Rattle.std.proofs.Common.{◌<◌, length, arith}
use Rattle.simulated.proofs.Holding.{holds_set}
use Rattle.simulated.proofs.cells.set_cell.Goals as goal

pub returns-then-node-nodes-clause-held : goal.returns-then-node-nodes-clause-held
returns-then-node-nodes-clause-held c =
    let cluster = c.args.cluster.now in
    let has_leaf : c.args.leaf < length cluster.leaves = grind (arith, c.if-leaf-len.true, c.len.ensures) in
    let has_node : c.args.node < length cluster.nodes = grind (arith, c.if-node-nodes.true, c.len-nodes.ensures) in
    λ held h. rw (c.cell_place-place.ensures, c.len-nodes.ensures) (holds_set cluster c.args.cells.now.items c.args.leaf c.args.node c.args.real held c.requires has_leaf has_node h)
