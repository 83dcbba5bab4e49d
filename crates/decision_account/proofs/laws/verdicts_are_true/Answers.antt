use Rattle.decision_account.proofs.TrueVerdicts.{chosen_told, told_chosen, verdict_true}
use Rattle.decision_account.proofs.laws.verdicts_are_true.Goals as goal

pub returns-clause-chosen : goal.returns-clause-chosen
returns-clause-chosen c = λ cl es ps table d n within e. told_chosen cl es ps table d n within e

pub returns-clause-told : goal.returns-clause-told
returns-clause-told c = λ cl es ps table d n e. chosen_told cl es ps table d n e

pub returns-clause-grounds : goal.returns-clause-grounds
returns-clause-grounds c = λ cl es ps table d n within. verdict_true cl es ps table d n within
