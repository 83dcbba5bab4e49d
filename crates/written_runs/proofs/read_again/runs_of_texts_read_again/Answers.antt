use Rattle.written_runs.proofs.RunsAgain.{cut_again, whole_again}
use Rattle.written_runs.proofs.read_again.runs_of_texts_read_again.Goals as goal

pub returns-clause-whole_run : goal.returns-clause-whole_run
returns-clause-whole_run c = λ text input whole left lines r run. whole_again text input r whole left lines run

pub returns-clause-cut : goal.returns-clause-cut
returns-clause-cut c = λ text input whole result left behind lines r within there run. cut_again text input r whole within result there left behind lines run
