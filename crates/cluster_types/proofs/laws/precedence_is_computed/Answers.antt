use Rattle.cluster_types.proofs.PrecedesLaws.{precedence}
use Rattle.cluster_types.proofs.laws.precedence_is_computed.Goals as goal

pub returns : goal.returns
returns c = λ cl actions is_earlier x y. precedence cl actions is_earlier x y
