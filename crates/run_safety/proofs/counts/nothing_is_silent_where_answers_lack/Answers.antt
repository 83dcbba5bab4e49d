use Rattle.run_safety.proofs.Silent.{step_heard}
use Rattle.run_safety.proofs.counts.nothing_is_silent_where_answers_lack.Goals as goal

pub returns : goal.returns
returns c = λ t since events rest left told step. step_heard t since events rest left told step
