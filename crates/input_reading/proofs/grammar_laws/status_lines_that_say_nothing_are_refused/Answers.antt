use Rattle.input_reading.proofs.StatusIsRead.{no-fact, no-fact-said}
use Rattle.input_reading.proofs.grammar_laws.status_lines_that_say_nothing_are_refused.Goals as goal

pub returns-clause-refused : goal.returns-clause-refused
returns-clause-refused g = no-fact

pub returns-clause-nothing : goal.returns-clause-nothing
returns-clause-nothing g = no-fact-said
