use Rattle.input_reading.proofs.ResultRelated.{no-answer, none-answered}
use Rattle.input_reading.proofs.grammar_laws.result_lines_that_say_nothing_are_refused.Goals as goal

pub returns-clause-refused : goal.returns-clause-refused
returns-clause-refused g = no-answer

pub returns-clause-nothing : goal.returns-clause-nothing
returns-clause-nothing g = none-answered
