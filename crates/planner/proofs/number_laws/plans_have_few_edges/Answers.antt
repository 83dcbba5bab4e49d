use Rattle.planner.proofs.Few.{few_edges}
use Rattle.planner.proofs.number_laws.plans_have_few_edges.Goals as goal

pub returns : goal.returns
returns c = λ cl actions valid planned. few_edges cl actions valid planned
