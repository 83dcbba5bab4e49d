use Rattle.score.proofs.TextLemmas.{read_score-score_text}
use Rattle.score.proofs.laws.written_reads_back.Goals as goal

pub returns : goal.returns
returns c = λ score within. read_score-score_text score within.0 within.1
