use Rattle.live_run.proofs.Dues.{begins_due}
use Rattle.live_run.proofs.run_laws.runs_begin_what_is_due.Goals as goal

pub returns : goal.returns
returns c = λ cl journal coming at behind lines how text runs g. begins_due cl journal coming at behind lines how text runs g
