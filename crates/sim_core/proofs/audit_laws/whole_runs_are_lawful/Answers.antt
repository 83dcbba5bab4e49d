use Rattle.sim_core.proofs.OwnAnswers.{whole_is_lawful}
use Rattle.sim_core.proofs.audit_laws.whole_runs_are_lawful.Goals as goal

pub returns : goal.returns
returns c = whole_is_lawful
