use Rattle.run_safety.proofs.PlansAreOne.{plans_one}
use Rattle.run_safety.proofs.one_plan.plans_are_unique.Goals as goal

pub returns : goal.returns
returns c = λ cl ps. plans_one cl ps
