use Rattle.sim_core.proofs.ReadsAgain.{read-again}
use Rattle.sim_core.proofs.laws.what_check_writes_is_read_again.Goals as goal

pub returns : goal.returns
returns c = λ text whole r short. read-again text whole r short
