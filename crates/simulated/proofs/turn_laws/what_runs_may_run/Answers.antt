use Rattle.simulated.proofs.Within.{always}
use Rattle.simulated.proofs.turn_laws.what_runs_may_run.Goals as goal

pub returns : goal.returns
returns c = always
