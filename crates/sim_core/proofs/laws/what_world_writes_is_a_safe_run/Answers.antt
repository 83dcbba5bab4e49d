use Rattle.sim_core.proofs.SafeTexts.{world_safe}
use Rattle.sim_core.proofs.laws.what_world_writes_is_a_safe_run.Goals as goal

pub returns : goal.returns
returns c = λ number input text whole reads is. world_safe input whole reads number text is
