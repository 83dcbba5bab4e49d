use Rattle.crm_print.proofs.ReadsAgain.{reads-again-commented}
use Rattle.crm_print.proofs.laws.what_is_printed_before_a_comment_reads_again.Goals as goal

pub returns : goal.returns
returns c = λ text comment lines rest crm e p s is. reads-again-commented text comment lines rest crm e p s is
