use Rattle.run_safety.proofs.KeptRuns.{runs_kept}
use Rattle.run_safety.proofs.kept_lines.runs_can_be_kept.Goals as goal

pub returns : goal.returns
returns c = λ cl ps whole es at rest left lines runs. runs_kept cl ps whole es at rest left lines runs
