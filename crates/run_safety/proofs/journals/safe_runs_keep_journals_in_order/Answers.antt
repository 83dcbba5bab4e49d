use Rattle.run_safety.proofs.Rests.{in_order, at_rest}
use Rattle.run_safety.proofs.journals.safe_runs_keep_journals_in_order.Goals as goal

pub returns-clause-in_order : goal.returns-clause-in_order
returns-clause-in_order c = λ cl ps whole es at rest left lines safe runs. in_order cl ps whole es at rest left lines safe runs

pub returns-clause-at_rest : goal.returns-clause-at_rest
returns-clause-at_rest c = λ cl ps whole es at rest left lines safe runs between. at_rest cl ps whole es at rest left lines safe runs between
