use Rattle.cluster_types.proofs.SafetyLaws.{eager}
use Rattle.cluster_types.proofs.laws.transitions_are_eager.Goals as goal

pub returns : goal.returns
returns c = eager
