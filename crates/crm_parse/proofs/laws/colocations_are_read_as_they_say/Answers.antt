use Rattle.crm_parse.proofs.Grammar.ColocationIsRead.{colocation-is_read}
use Rattle.crm_parse.proofs.Grammar.ColocationIsSaid.{colocation-is_said}
use Rattle.crm_parse.proofs.laws.colocations_are_read_as_they_say.Goals as goal

pub returns : goal.returns
returns c = λ words form. (colocation-is_said words form, colocation-is_read words form)
