use Rattle.run_safety.proofs.Planned.{of_graph, of_plan}
use Rattle.run_safety.proofs.plans.plans_are_carried_out.Goals as goal

pub returns-clause-actions : goal.returns-clause-actions
returns-clause-actions c = λ cl es ps placed actions valid at_rest plan. of_plan cl es ps placed actions valid at_rest plan

pub returns-clause-graph : goal.returns-clause-graph
returns-clause-graph c = λ cl es ps placed g valid at_rest out. of_graph cl es ps placed g valid at_rest out
