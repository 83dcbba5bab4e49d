use Rattle.cluster_model.proofs.Closing.{found_by_places}
use Rattle.cluster_model.proofs.resolution.loop_faults.loop_fault.Goals as goal

pub returns : goal.returns
returns c =
    found_by_places c.args.statements.now c.args.cluster.now c.requires.joined c.requires.ordered c.in_ok-colocation.colocation c.in_ok-order.order
    c.in_ok-colocation.ensures c.in_ok-order.ensures c.fault_at.result c.fault_at.ensures
