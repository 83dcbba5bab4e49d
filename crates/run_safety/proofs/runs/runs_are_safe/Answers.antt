use Rattle.run_safety.proofs.SafeRuns.{safe_run}
use Rattle.run_safety.proofs.runs.runs_are_safe.Goals as goal

pub returns : goal.returns
returns c = λ cl ps whole es rest valid at_rest. safe_run cl ps whole valid es rest at_rest
