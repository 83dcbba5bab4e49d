use Rattle.input_reading.proofs.RunSaid.{lines-of-run-read, lines-of-run-refused, lines-of-run-said, not-said-and-refused}
use Rattle.input_reading.proofs.grammar_laws.a_run_is_read_as_its_lines_say.Goals as goal

pub returns-clause-read : goal.returns-clause-read
returns-clause-read g = λ c lines run. (lines-of-run-said c lines run, lines-of-run-read c lines run)

pub returns-clause-refused : goal.returns-clause-refused
returns-clause-refused g = lines-of-run-refused

pub returns-clause-not_both : goal.returns-clause-not_both
returns-clause-not_both g = not-said-and-refused
