use Rattle.run_safety.proofs.Counted.{never_most}
use Rattle.run_safety.proofs.counts.enough_transitions_are_allowed.Goals as goal

pub returns : goal.returns
returns c = λ cl ps whole most es journal rest left lines told low runs. never_most cl ps whole es rest left lines told most journal low runs
