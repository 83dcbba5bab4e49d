use Rattle.cluster_types.proofs.StatesKept.{nodes_fit, cells_fit, fail_stops_fit, node_kept, cell_kept, fail_stop_kept}
use Rattle.cluster_types.proofs.laws.each_has_its_state.Goals as goal

pub returns-clause-nodes : goal.returns-clause-nodes
returns-clause-nodes c = nodes_fit

pub returns-clause-cells : goal.returns-clause-cells
returns-clause-cells c = cells_fit

pub returns-clause-leaves : goal.returns-clause-leaves
returns-clause-leaves c = fail_stops_fit

pub returns-clause-node : goal.returns-clause-node
returns-clause-node c = node_kept

pub returns-clause-cell : goal.returns-clause-cell
returns-clause-cell c = cell_kept

pub returns-clause-leaf : goal.returns-clause-leaf
returns-clause-leaf c = fail_stop_kept
