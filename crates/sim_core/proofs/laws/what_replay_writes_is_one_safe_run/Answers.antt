use Rattle.sim_core.proofs.Promised.{output_safe}
use Rattle.sim_core.proofs.laws.what_replay_writes_is_one_safe_run.Goals as goal

pub returns : goal.returns
returns c = λ input text status out. output_safe input status text out
