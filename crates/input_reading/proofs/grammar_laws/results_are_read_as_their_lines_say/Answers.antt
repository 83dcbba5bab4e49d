use Rattle.input_reading.proofs.ResultsSaid.{not-said-and-refused, results-read, results-refused, results-said}
use Rattle.input_reading.proofs.grammar_laws.results_are_read_as_their_lines_say.Goals as goal

pub returns-clause-read : goal.returns-clause-read
returns-clause-read g = λ c start lines results. (results-said c start lines results, results-read c start lines results)

pub returns-clause-refused : goal.returns-clause-refused
returns-clause-refused g = results-refused

pub returns-clause-not_both : goal.returns-clause-not_both
returns-clause-not_both g = not-said-and-refused
