use Rattle.input_reading.proofs.TextAgain.{text_again}
use Rattle.input_reading.proofs.line_laws.what_is_written_reads_again.Goals as goal

pub returns : goal.returns
returns c = λ cluster lines valid are. text_again cluster valid lines are
