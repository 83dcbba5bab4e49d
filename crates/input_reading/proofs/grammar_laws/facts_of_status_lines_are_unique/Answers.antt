use Rattle.input_reading.proofs.StatusIsRead.{one-fact}
use Rattle.input_reading.proofs.grammar_laws.facts_of_status_lines_are_unique.Goals as goal

pub returns : goal.returns
returns g = one-fact
