use Rattle.run_safety.proofs.OneStep.{step_one}
use Rattle.run_safety.proofs.laws.steps_are_unique.Goals as goal

pub returns : goal.returns
returns c = λ t whole since events others rest left other told one two. step_one t since whole rest told events others left other one two
