use Rattle.input_reading.proofs.ResultRelated.{one-answer}
use Rattle.input_reading.proofs.grammar_laws.answers_of_result_lines_are_unique.Goals as goal

pub returns : goal.returns
returns g = one-answer
