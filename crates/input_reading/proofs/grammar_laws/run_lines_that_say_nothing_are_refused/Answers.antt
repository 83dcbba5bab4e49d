use Rattle.input_reading.proofs.RunRelated.{no-line, no-line-said}
use Rattle.input_reading.proofs.grammar_laws.run_lines_that_say_nothing_are_refused.Goals as goal

pub returns-clause-refused : goal.returns-clause-refused
returns-clause-refused g = no-line

pub returns-clause-nothing : goal.returns-clause-nothing
returns-clause-nothing g = no-line-said
