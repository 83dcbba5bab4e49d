use Rattle.plan_laws.proofs.OnePlacement.{one_placement}
use Rattle.plan_laws.proofs.SomePlacement.{is_placed, placed}
use Rattle.plan_laws.proofs.laws.a_placement_exists_and_is_unique.Goals as goal

pub returns-clause-some : goal.returns-clause-some
returns-clause-some c = λ cl es ps. (placed cl es ps, is_placed cl es ps)

pub returns-clause-no_more : goal.returns-clause-no_more
returns-clause-no_more c = λ cl es ps one other is too. one_placement cl es ps one other is too
