use Rattle.plan_laws.proofs.KeptTargets.{targets_one}
use Rattle.plan_laws.proofs.laws.targets_are_unique.Goals as goal

pub returns : goal.returns
returns c = λ cl es table one other. targets_one cl es table one other
