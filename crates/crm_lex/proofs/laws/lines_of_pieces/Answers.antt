use Rattle.crm_lex.proofs.Pieces.{same_by_pieces, whole_by_pieces, own_lines}
use Rattle.crm_lex.proofs.laws.lines_of_pieces.Goals as goal

pub returns-clause-same : goal.returns-clause-same
returns-clause-same c = λ text. same_by_pieces text

pub returns-clause-whole : goal.returns-clause-whole
returns-clause-whole c = λ text. whole_by_pieces text

pub returns-clause-lines : goal.returns-clause-lines
returns-clause-lines c = λ text. own_lines text
