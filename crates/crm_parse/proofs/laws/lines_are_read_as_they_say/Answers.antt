use Rattle.crm_parse.proofs.Grammar.LineRelated.{line-is_read, line-is_said}
use Rattle.crm_parse.proofs.laws.lines_are_read_as_they_say.Goals as goal

pub returns : goal.returns
returns c = λ before words statement. (line-is_said before words statement, line-is_read before words statement)
