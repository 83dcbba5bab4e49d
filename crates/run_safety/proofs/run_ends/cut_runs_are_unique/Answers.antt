use Rattle.run_safety.proofs.PlansAreOne.{plans_one}
use Rattle.run_safety.proofs.OneEnd.{cut_one}
use Rattle.run_safety.proofs.run_ends.cut_runs_are_unique.Goals as goal

pub returns : goal.returns
returns c = λ cl ps whole es rest left right lines others given other behind unread told one two. cut_one cl ps whole (plans_one cl ps) es rest told left right lines others given other behind unread one two
