use Rattle.simulated.proofs.Agreeing.{shown_within}
use Rattle.simulated.proofs.laws.worlds_that_agree_run_what_may_run.Goals as goal

pub returns : goal.returns
returns c = shown_within
