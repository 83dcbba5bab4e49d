use Rattle.sim_core.proofs.ReplayedAgain.{cut_read_again, whole_read_again}
use Rattle.sim_core.proofs.laws.what_replay_writes_is_read_again.Goals as goal

pub returns-clause-whole : goal.returns-clause-whole
returns-clause-whole c = λ input text run. whole_read_again input text run

pub returns-clause-cut : goal.returns-clause-cut
returns-clause-cut c = λ input text run. cut_read_again input text run
