use Rattle.crm_parse.proofs.FirstFaultFound.{first-fault}
use Rattle.crm_parse.proofs.laws.a_refused_line_has_a_first_faulty_word.Goals as goal

pub returns : goal.returns
returns c = λ before words cause some n l e. first-fault before words cause some n l e
