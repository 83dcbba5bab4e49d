use Rattle.crm_lex.proofs.FaultOrder.{lowest}
use Rattle.crm_lex.proofs.laws.the_first_fault_is_read.Goals as goal

pub returns : goal.returns
returns c = λ text n cause e. lowest text n cause e
