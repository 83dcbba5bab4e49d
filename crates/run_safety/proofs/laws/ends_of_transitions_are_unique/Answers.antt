use Rattle.run_safety.proofs.OneTransition.{end_one}
use Rattle.run_safety.proofs.laws.ends_of_transitions_are_unique.Goals as goal

pub returns : goal.returns
returns c = λ t whole since events others rest left right told one two over also. end_one t whole since events others rest left right told one two over also
