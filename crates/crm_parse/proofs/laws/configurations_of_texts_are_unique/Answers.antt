use Rattle.crm_parse.proofs.Grammar.ConfigurationRelated.{one-configuration}
use Rattle.crm_parse.proofs.laws.configurations_of_texts_are_unique.Goals as goal

pub returns : goal.returns
returns c = λ lines one other s t. one-configuration lines one other s t
