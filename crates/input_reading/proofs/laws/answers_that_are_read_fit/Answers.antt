use Rattle.input_reading.proofs.AnswersFit.{read_answers}
use Rattle.input_reading.proofs.laws.answers_that_are_read_fit.Goals as goal

pub returns : goal.returns
returns c = read_answers
