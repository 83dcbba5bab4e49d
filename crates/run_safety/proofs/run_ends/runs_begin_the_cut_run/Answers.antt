use Rattle.run_safety.proofs.PlansAreOne.{plans_one}
use Rattle.run_safety.proofs.Beginnings.{begins_cut}
use Rattle.run_safety.proofs.run_ends.runs_begin_the_cut_run.Goals as goal

pub returns : goal.returns
returns c = λ cl ps whole es rest at behind unread given left lines others told runs run. begins_cut cl ps whole (plans_one cl ps) es rest told at behind lines runs left given unread others run
