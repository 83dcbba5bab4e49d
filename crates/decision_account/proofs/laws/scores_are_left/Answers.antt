use Rattle.decision_account.proofs.ScoresLines as lines
use Rattle.decision_account.proofs.laws.scores_are_left.Goals as goal

pub returns : goal.returns
returns c = λ cl es ps placed is. lines.scores_are_left cl es ps is.decisions placed is.decided
