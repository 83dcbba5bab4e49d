use Rattle.live_run.proofs.Dues.{one_end}
use Rattle.live_run.proofs.run_laws.ends_are_unique.Goals as goal

pub returns : goal.returns
returns c = λ cl journal coming one other text also g h. one_end cl journal coming one other text also g h
