use Rattle.live_run.proofs.Asked.{gives}
use Rattle.live_run.proofs.answering.LineOutcomesOutcomes.next.Goals as goal

pub returns-clause-gives : goal.returns-clause-gives
returns-clause-gives g c = gives _ _ _ _ c.ask.result c.ask.ensures.answers
