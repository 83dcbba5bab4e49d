use Rattle.crm_parse.proofs.Grammar.CloneRelated.{clone-is_read, clone-is_said}
use Rattle.crm_parse.proofs.laws.clones_are_read_as_they_say.Goals as goal

pub returns : goal.returns
returns c = λ ms words form. (clone-is_said ms words form, clone-is_read ms words form)
