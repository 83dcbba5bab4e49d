use Rattle.sim_core.proofs.Exclusive.{not_faulty}
use Rattle.sim_core.proofs.audit_laws.faulty_runs_are_not_lawful.Goals as goal

pub returns : goal.returns
returns c = λ cl journal lines place kind faulty lawful. not_faulty cl journal lines lawful place kind faulty
