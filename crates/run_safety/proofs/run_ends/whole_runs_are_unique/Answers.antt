use Rattle.run_safety.proofs.PlansAreOne.{plans_one}
use Rattle.run_safety.proofs.OneEnd.{whole_one}
use Rattle.run_safety.proofs.run_ends.whole_runs_are_unique.Goals as goal

pub returns : goal.returns
returns c = λ cl ps whole es rest left right lines others told one two. whole_one cl ps whole (plans_one cl ps) es rest told left right lines others one two
