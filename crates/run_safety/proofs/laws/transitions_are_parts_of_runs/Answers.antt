use Rattle.run_safety.proofs.OneTransition.{goes_runs}
use Rattle.run_safety.proofs.laws.transitions_are_parts_of_runs.Goals as goal

pub returns : goal.returns
returns c = λ cl ps whole k t since later rest left runs. goes_runs cl ps whole k t since later rest left runs
