use Rattle.input_reading.proofs.ValidInput.{cluster_valid, journal_ordered, journal_rests}
use Rattle.input_reading.proofs.laws.what_is_read_is_valid.Goals as goal

pub returns-clause-cluster : goal.returns-clause-cluster
returns-clause-cluster c = cluster_valid

pub returns-clause-orderly : goal.returns-clause-orderly
returns-clause-orderly c = journal_ordered

pub returns-clause-idle : goal.returns-clause-idle
returns-clause-idle c = journal_rests
