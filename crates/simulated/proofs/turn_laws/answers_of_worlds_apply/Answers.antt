use Rattle.simulated.proofs.Applying.{ends_apply}
use Rattle.simulated.proofs.turn_laws.answers_of_worlds_apply.Goals as goal

pub returns-clause-ends : goal.returns-clause-ends
returns-clause-ends c = ends_apply
