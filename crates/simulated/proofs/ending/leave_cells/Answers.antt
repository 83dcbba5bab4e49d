use Rattle.std.proofs.Common.{◌≡◌, false, arith}
use Rattle.simulated.proofs.Holding.{holds_left}
use Rattle.simulated.proofs.ending.leave_cells.Goals as goal

pub returns-then-not-cluster-clause-held : goal.returns-then-not-cluster-clause-held
returns-then-not-cluster-clause-held c = λ held h.
    let off : c.args.cluster.now.properties.fencing ≡ false = grind arith in
    holds_left c.args.cluster.now c.clear_node.new.cells.items held c.args.node off (c.clear_node.ensures.held held h)
