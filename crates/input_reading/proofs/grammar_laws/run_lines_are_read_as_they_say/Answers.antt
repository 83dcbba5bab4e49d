use Rattle.input_reading.proofs.RunRelated.{run-read, run-said}
use Rattle.input_reading.proofs.grammar_laws.run_lines_are_read_as_they_say.Goals as goal

pub returns : goal.returns
returns g = λ c words line. (run-said c words line, run-read c words line)
