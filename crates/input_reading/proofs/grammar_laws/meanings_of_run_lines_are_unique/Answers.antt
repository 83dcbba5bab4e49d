use Rattle.input_reading.proofs.RunRelated.{one-line}
use Rattle.input_reading.proofs.grammar_laws.meanings_of_run_lines_are_unique.Goals as goal

pub returns : goal.returns
returns g = one-line
