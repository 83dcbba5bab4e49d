use Rattle.cluster_types.proofs.NumberLaws.{one_list, one_number}
use Rattle.cluster_types.specs.NeededActions.{Needed}
use Rattle.cluster_types.proofs.laws.numbers_are_unique.Goals as goal

pub returns-clause-one_list : goal.returns-clause-one_list
returns-clause-one_list c = λ cl es targets xs ys. one_list cl (Needed cl es targets) xs ys

pub returns-clause-one_number : goal.returns-clause-one_number
returns-clause-one_number c = λ cl es targets xs i j a. one_number cl (Needed cl es targets) xs i j a
