use Rattle.run_safety.proofs.PlansAreOne.{plans_one}
use Rattle.run_safety.proofs.SoFar.{stopped_begins}
use Rattle.run_safety.proofs.parts.stopped_runs_begin_the_whole_run.Goals as goal

pub returns : goal.returns
returns c = λ cl ps whole es left right rest behind told call closing others known run over. stopped_begins cl ps whole es left right rest behind told call closing others (plans_one cl ps) known run over
