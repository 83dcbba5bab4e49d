use Rattle.input_reading.proofs.Faults.{trace_read_or_faulty}
use Rattle.input_reading.proofs.OneReading.{not_both_of_a_trace, one_trace, one_trace_fault}
use Rattle.input_reading.proofs.laws.readings_of_a_trace_are_unique.Goals as goal

pub returns-clause-either : goal.returns-clause-either
returns-clause-either c = trace_read_or_faulty

pub returns-clause-not_both : goal.returns-clause-not_both
returns-clause-not_both c = not_both_of_a_trace

pub returns-clause-one_trace : goal.returns-clause-one_trace
returns-clause-one_trace c = one_trace

pub returns-clause-one_fault : goal.returns-clause-one_fault
returns-clause-one_fault c = one_trace_fault
