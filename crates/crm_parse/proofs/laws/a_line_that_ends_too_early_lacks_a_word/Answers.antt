use Rattle.crm_parse.proofs.FirstFaultFound.{ends-too-early}
use Rattle.crm_parse.proofs.laws.a_line_that_ends_too_early_lacks_a_word.Goals as goal

pub returns : goal.returns
returns c = λ before words some silent b. ends-too-early before words some silent b
