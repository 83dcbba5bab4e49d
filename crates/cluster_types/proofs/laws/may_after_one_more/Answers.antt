use Rattle.cluster_types.proofs.MayLaws.{may-last}
use Rattle.cluster_types.proofs.laws.may_after_one_more.Goals as goal

pub returns : goal.returns
returns c = λ c r n es e. may-last c r n e es
