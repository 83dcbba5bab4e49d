use Rattle.input_reading.proofs.Faults.{read_or_faulty}
use Rattle.input_reading.proofs.OneReading.{not_both, one_fault, one_input}
use Rattle.input_reading.proofs.laws.readings_are_unique.Goals as goal

pub returns-clause-either : goal.returns-clause-either
returns-clause-either c = read_or_faulty

pub returns-clause-not_both : goal.returns-clause-not_both
returns-clause-not_both c = not_both

pub returns-clause-one_input : goal.returns-clause-one_input
returns-clause-one_input c = one_input

pub returns-clause-one_fault : goal.returns-clause-one_fault
returns-clause-one_fault c = one_fault
