use Rattle.crm_parse.proofs.Grammar.LineRelated.{no-statement, none-said}
use Rattle.crm_parse.proofs.laws.lines_that_say_nothing_are_refused.Goals as goal

pub returns-clause-refused : goal.returns-clause-refused
returns-clause-refused c = λ before words h. no-statement before words h

pub returns-clause-nothing : goal.returns-clause-nothing
returns-clause-nothing c = λ before words cause statement e s. none-said before words cause statement e s
