use Rattle.input_reading.proofs.StatusIsRead.{status-read}
use Rattle.input_reading.proofs.StatusRelated.{status-said}
use Rattle.input_reading.proofs.grammar_laws.status_lines_are_read_as_they_say.Goals as goal

pub returns : goal.returns
returns g = λ c words told. (status-said c words told, status-read c words told)
