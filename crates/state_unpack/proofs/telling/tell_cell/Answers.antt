use Rattle.std.proofs.Common.{◌<◌, length, ap, ◌∙◌, arith}
use Rattle.state_unpack.specs.Inner.Facts.{facts_after}
use Rattle.state_unpack.proofs.Told.{tells-one}
use Rattle.state_unpack.proofs.telling.tell_cell.Goals as goal

pub returns-then-node-nodes : goal.returns-then-node-nodes
returns-then-node-nodes c =
    let cluster = c.args.cluster.now in
    let has_leaf : c.args.leaf < length cluster.leaves = grind (arith, c.if-leaf-len.true, c.len.ensures) in
    let has_node : c.args.node < length cluster.nodes = grind (arith, c.if-node-nodes.true, c.len-nodes.ensures) in
    let here = rw (c.cell_place-place.ensures, c.len-nodes.ensures) at c.index.ensures in
    rw (c.cell_place-place.ensures, c.len-nodes.ensures)
    (tells-one cluster c.args.event c.args.leaf c.args.node c.args.cells.now.items c.after.result c.index.result.now c.requires has_leaf has_node
    (c.after.ensures ∙ ap (λ facts. facts_after cluster c.args.leaf c.args.node facts c.args.event) here))
