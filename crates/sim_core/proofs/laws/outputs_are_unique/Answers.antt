use Rattle.sim_core.proofs.OneOutput.{gets_one}
use Rattle.sim_core.proofs.laws.outputs_are_unique.Goals as goal

pub returns : goal.returns
returns c = gets_one
