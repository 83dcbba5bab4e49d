use Rattle.written_runs.proofs.LineNumbers.{read_numbers}
use Rattle.written_runs.proofs.ReadFits.{read_few, read_intervals}
use Rattle.written_runs.proofs.read_again.what_is_read_fits.Goals as goal

pub returns-clause-intervals : goal.returns-clause-intervals
returns-clause-intervals c = λ text input r. read_intervals text input r

pub returns-clause-few : goal.returns-clause-few
returns-clause-few c = λ text input r. read_few text input r

pub returns-clause-lines : goal.returns-clause-lines
returns-clause-lines c = λ text input r within. read_numbers text input r within
