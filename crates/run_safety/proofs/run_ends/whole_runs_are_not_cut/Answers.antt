use Rattle.run_safety.proofs.PlansAreOne.{plans_one}
use Rattle.run_safety.proofs.OneEnd.{whole_or_cut}
use Rattle.run_safety.proofs.run_ends.whole_runs_are_not_cut.Goals as goal

pub returns : goal.returns
returns c = λ cl ps whole es rest left right lines others given behind told one two. whole_or_cut cl ps whole (plans_one cl ps) es rest told left right lines others given behind one two
