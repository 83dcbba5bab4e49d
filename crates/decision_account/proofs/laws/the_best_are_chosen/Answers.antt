use Rattle.decision_account.proofs.BestChosen.{best_chosen, chosen_fits}
use Rattle.decision_account.proofs.laws.the_best_are_chosen.Goals as goal

pub returns-clause-candidate : goal.returns-clause-candidate
returns-clause-candidate c = λ cl es ps table d n is. chosen_fits cl es ps table d n is

pub returns-clause-better : goal.returns-clause-better
returns-clause-better c = λ cl es ps table d n m is fit unpicked. best_chosen cl es ps table d n m is fit unpicked
