use Rattle.run_safety.proofs.PlansAreOne.{plans_one}
use Rattle.run_safety.proofs.Beginnings.{begins_whole}
use Rattle.run_safety.proofs.run_ends.runs_begin_the_whole_run.Goals as goal

pub returns : goal.returns
returns c = λ cl ps whole es rest at behind left lines others told runs run. begins_whole cl ps whole (plans_one cl ps) es rest told at behind lines runs left others run
