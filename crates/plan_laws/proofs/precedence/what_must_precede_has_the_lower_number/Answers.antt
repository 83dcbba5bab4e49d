use Rattle.plan_laws.proofs.LowerNumbers.{lower_number}
use Rattle.plan_laws.proofs.Upward.{pairs_upward}
use Rattle.plan_laws.proofs.precedence.what_must_precede_has_the_lower_number.Goals as goal

pub returns-clause-needed : goal.returns-clause-needed
returns-clause-needed c = λ cl es targets actions x y valid roles needed in_x in_y. pairs_upward cl es targets actions valid roles needed x y in_x in_y

pub returns-clause-planned : goal.returns-clause-planned
returns-clause-planned c = λ cl es ps placed actions j k valid plan. lower_number cl es ps placed actions valid plan j k
