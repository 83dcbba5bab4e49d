use Rattle.cluster_types.proofs.Moments.{steps_keep, idle_keeps}
use Rattle.cluster_types.proofs.laws.moments_stay_below_their_limit.Goals as goal

pub returns-clause-steps : goal.returns-clause-steps
returns-clause-steps c = steps_keep

pub returns-clause-idle : goal.returns-clause-idle
returns-clause-idle c = idle_keeps
