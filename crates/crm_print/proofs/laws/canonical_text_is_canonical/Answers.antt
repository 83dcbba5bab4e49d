use Rattle.crm_print.proofs.ReadsAgain.{canonical-again}
use Rattle.crm_print.proofs.laws.canonical_text_is_canonical.Goals as goal

pub returns : goal.returns
returns c = λ one other e. canonical-again one other e
