use Rattle.input_reading.proofs.StatusSaid.{journal-read, journal-refused, journal-said, not-said-and-refused}
use Rattle.input_reading.proofs.grammar_laws.a_status_is_read_as_its_lines_say.Goals as goal

pub returns-clause-read : goal.returns-clause-read
returns-clause-read g = λ c lines journal. (journal-said c lines journal, journal-read c lines journal)

pub returns-clause-refused : goal.returns-clause-refused
returns-clause-refused g = journal-refused

pub returns-clause-not_both : goal.returns-clause-not_both
returns-clause-not_both g = not-said-and-refused
