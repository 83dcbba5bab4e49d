use Rattle.crm_parse.proofs.Grammar.PrimitiveRelated.{primitive-is_read, primitive-is_said}
use Rattle.crm_parse.proofs.laws.primitives_are_read_as_they_say.Goals as goal

pub returns : goal.returns
returns c = λ words form. (primitive-is_said words form, primitive-is_read words form)
