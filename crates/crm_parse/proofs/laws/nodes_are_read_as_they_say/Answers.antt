use Rattle.crm_parse.proofs.Grammar.NodeRelated.{node-is_read, node-is_said}
use Rattle.crm_parse.proofs.laws.nodes_are_read_as_they_say.Goals as goal

pub returns : goal.returns
returns c = λ words form. (node-is_said words form, node-is_read words form)
