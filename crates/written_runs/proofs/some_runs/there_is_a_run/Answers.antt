use Rattle.planner.proofs.SomePlan.{actions, goals, is_plan}
use Rattle.written_runs.proofs.SomeRuns.{more_or_cut, whole_or_cut}
use Rattle.written_runs.proofs.some_runs.there_is_a_run.Goals as goal

pub returns-clause-all : goal.returns-clause-all
returns-clause-all c = λ cl promotions es answers valid.
    whole_or_cut cl promotions (λ es. goals cl valid es promotions) (λ es. actions cl valid es promotions) (λ es. is_plan cl valid es promotions) es answers

pub returns-clause-more : goal.returns-clause-more
returns-clause-more c = λ cl promotions es answers valid.
    more_or_cut cl promotions (λ es. goals cl valid es promotions) (λ es. actions cl valid es promotions) (λ es. is_plan cl valid es promotions) es answers
