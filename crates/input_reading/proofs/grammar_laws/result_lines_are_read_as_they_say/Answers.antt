use Rattle.input_reading.proofs.ResultRelated.{result-read, result-said}
use Rattle.input_reading.proofs.grammar_laws.result_lines_are_read_as_they_say.Goals as goal

pub returns : goal.returns
returns g = λ c moment words given. (result-said c moment words given, result-read c moment words given)
