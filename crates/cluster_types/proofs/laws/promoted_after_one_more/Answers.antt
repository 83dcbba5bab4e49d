use Rattle.cluster_types.proofs.MayLaws.{promoted-last}
use Rattle.cluster_types.proofs.laws.promoted_after_one_more.Goals as goal

pub returns : goal.returns
returns c = λ c r n es e. promoted-last c r n e es
