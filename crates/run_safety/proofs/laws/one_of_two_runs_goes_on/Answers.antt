use Rattle.run_safety.proofs.PlansAreOne.{plans_one}
use Rattle.run_safety.proofs.OneRun.{one_way}
use Rattle.run_safety.proofs.laws.one_of_two_runs_goes_on.Goals as goal

pub returns : goal.returns
returns c = λ cl ps whole at p q lines others rest left right told one two. one_way cl ps whole (plans_one cl ps) at p q rest left right lines others told one two
