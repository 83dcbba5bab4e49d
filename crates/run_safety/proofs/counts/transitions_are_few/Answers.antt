use Rattle.run_safety.proofs.Counted.{few_transitions}
use Rattle.run_safety.proofs.counts.transitions_are_few.Goals as goal

pub returns : goal.returns
returns c = λ cl ps whole es rest left lines at told runs. few_transitions cl ps whole es rest left lines told at runs
