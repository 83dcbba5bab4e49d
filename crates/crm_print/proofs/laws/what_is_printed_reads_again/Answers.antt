use Rattle.crm_print.proofs.ReadsAgain.{reads-again}
use Rattle.crm_print.proofs.laws.what_is_printed_reads_again.Goals as goal

pub returns : goal.returns
returns c = λ text lines rest crm e p s. reads-again text lines rest crm e p s
