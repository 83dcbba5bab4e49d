use Rattle.cluster_types.proofs.StepLaws.{predecessors-first}
use Rattle.cluster_types.proofs.laws.predecessors_first.Goals as goal

pub returns : goal.returns
returns c = predecessors-first
