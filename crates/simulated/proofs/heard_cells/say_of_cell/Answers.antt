use Rattle.std.proofs.Common.{◌<◌, length, arith}
use Rattle.simulated.proofs.Hearing.{said-one}
use Rattle.simulated.proofs.heard_cells.say_of_cell.Goals as goal

pub returns-then-node-nodes : goal.returns-then-node-nodes
returns-then-node-nodes c =
    let cluster = c.args.cluster.now in
    let has_leaf : c.args.leaf < length cluster.leaves = grind (arith, c.if-leaf-len.true, c.len.ensures) in
    let has_node : c.args.node < length cluster.nodes = grind (arith, c.if-node-nodes.true, c.len-nodes.ensures) in
    rw (c.cell_place-place.ensures, c.len-nodes.ensures)
    (said-one cluster c.args.leaf c.args.node c.args.is_heard c.args.heard.now.items c.requires has_leaf has_node)
