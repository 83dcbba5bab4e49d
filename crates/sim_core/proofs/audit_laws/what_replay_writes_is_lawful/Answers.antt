use Rattle.sim_core.proofs.ReplayAgain.{is_lawful}
use Rattle.sim_core.proofs.audit_laws.what_replay_writes_is_lawful.Goals as goal

pub returns : goal.returns
returns c = λ input text whole run. is_lawful input whole text run
