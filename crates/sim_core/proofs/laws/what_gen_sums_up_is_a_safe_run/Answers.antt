use Rattle.sim_core.proofs.SafeTexts.{summary_safe}
use Rattle.sim_core.proofs.laws.what_gen_sums_up_is_a_safe_run.Goals as goal

pub returns : goal.returns
returns c = λ number input text whole reads is. summary_safe input whole reads number text is
