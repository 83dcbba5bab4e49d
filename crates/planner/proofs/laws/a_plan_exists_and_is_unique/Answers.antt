use Rattle.plan_laws.proofs.OnePlan.{one_list, one_placed}
use Rattle.planner.proofs.SomePlan.{actions, goals, is_plan}
use Rattle.planner.proofs.laws.a_plan_exists_and_is_unique.Goals as goal

pub returns-clause-some : goal.returns-clause-some
returns-clause-some call = λ c es ps valid. record { placed = goals c valid es ps; actions = actions c valid es ps; is = is_plan c valid es ps }

pub returns-clause-placed : goal.returns-clause-placed
returns-clause-placed call = λ c es ps one other xs ys. one_placed c es ps one other xs ys

pub returns-clause-actions : goal.returns-clause-actions
returns-clause-actions call = λ c es ps one other xs ys. one_list c es ps one other xs ys
