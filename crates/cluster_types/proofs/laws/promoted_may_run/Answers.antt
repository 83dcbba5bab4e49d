use Rattle.cluster_types.proofs.MayLaws.{may-promoted}
use Rattle.cluster_types.proofs.laws.promoted_may_run.Goals as goal

pub returns : goal.returns
returns c = may-promoted
