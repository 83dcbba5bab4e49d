use Rattle.crm_parse.proofs.Grammar.GroupRelated.{group-is_read, group-is_said}
use Rattle.crm_parse.proofs.laws.groups_are_read_as_they_say.Goals as goal

pub returns : goal.returns
returns c = λ words form. (group-is_said words form, group-is_read words form)
