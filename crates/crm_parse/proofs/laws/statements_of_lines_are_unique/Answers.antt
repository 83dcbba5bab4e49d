use Rattle.crm_parse.proofs.Grammar.LineRelated.{one-statement}
use Rattle.crm_parse.proofs.laws.statements_of_lines_are_unique.Goals as goal

pub returns : goal.returns
returns c = λ before words one other s t. one-statement before words one other s t
