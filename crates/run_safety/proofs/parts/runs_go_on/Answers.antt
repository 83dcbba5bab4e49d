use Rattle.run_safety.proofs.SoFar.{runs_more}
use Rattle.run_safety.proofs.parts.runs_go_on.Goals as goal

pub returns : goal.returns
returns c = λ cl ps whole at middle next rest behind left lines more runs step. runs_more cl ps whole at middle next rest behind left lines more runs step
