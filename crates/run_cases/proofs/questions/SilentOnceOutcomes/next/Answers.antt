use Rattle.cluster_types.specs.Sources.{untold}
use Rattle.run_cases.proofs.questions.SilentOnceOutcomes.next.Goals as goal

pub returns-then-first-clause-gives : goal.returns-then-first-clause-gives
returns-then-first-clause-gives c = untold _

pub returns-clause-gives : goal.returns-clause-gives
returns-clause-gives c = untold _
