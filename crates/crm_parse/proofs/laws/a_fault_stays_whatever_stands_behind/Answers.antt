use Rattle.crm_parse.proofs.FirstFaultFound.{stays-refused}
use Rattle.crm_parse.proofs.laws.a_fault_stays_whatever_stands_behind.Goals as goal

pub returns : goal.returns
returns c = λ before words cause some n e. λ more h. stays-refused before words more cause some n h e
