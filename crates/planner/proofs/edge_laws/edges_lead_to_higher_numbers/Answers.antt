use Rattle.planner.proofs.Upward.{is_graph, leads_higher}
use Rattle.planner.proofs.edge_laws.edges_lead_to_higher_numbers.Goals as goal

pub returns-clause-higher : goal.returns-clause-higher
returns-clause-higher c = λ cl es targets actions edges valid roles. leads_higher cl es targets actions edges valid roles

pub returns-clause-graph : goal.returns-clause-graph
returns-clause-graph c = λ cl es targets actions edges valid roles. is_graph cl es targets actions edges valid roles
