use Rattle.sim_core.proofs.OneFault.{one_fault}
use Rattle.sim_core.proofs.audit_laws.faulty_lines_are_unique.Goals as goal

pub returns : goal.returns
returns c = one_fault
