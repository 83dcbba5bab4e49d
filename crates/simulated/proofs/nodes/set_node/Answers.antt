use Rattle.std.proofs.Common.{◌<◌, ◌≤◌, length, arith}
use Rattle.simulated.proofs.Holding.{holds_no_node, holds_node}
use Rattle.simulated.proofs.nodes.set_node.Goals as goal

pub returns-then-node-len-clause-held : goal.returns-then-node-len-clause-held
returns-then-node-len-clause-held c =
    let there : c.args.node < length c.args.nodes.now.items = grind (arith, c.if-node-len.true, c.len.ensures) in
    λ count held h. holds_node c.args.nodes.now.items c.args.node count c.args.standing held there h

pub returns-else-node-len-clause-held : goal.returns-else-node-len-clause-held
returns-else-node-len-clause-held c =
    let past : length c.args.nodes.now.items ≤ c.args.node = grind (arith, c.if-node-len.false, c.len.ensures) in
    λ count held h. holds_no_node c.args.nodes.now.items c.args.node count c.args.standing held past h
