use Rattle.run_safety.proofs.PlansAreOne.{plans_one}
use Rattle.run_safety.proofs.OneRun.{run_one}
use Rattle.run_safety.proofs.laws.continuations_of_runs_are_unique.Goals as goal

pub returns : goal.returns
returns c = λ cl ps whole at next after lines others rest left other told one two. run_one cl ps whole (plans_one cl ps) rest told at next after lines others left other one two
