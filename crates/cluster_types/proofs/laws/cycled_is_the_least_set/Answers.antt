use Rattle.std.proofs.Common.{◌≡◌, true}
use Rattle.cluster_types.proofs.LeastSets.{cycled-closed, cycled-least}
use Rattle.cluster_types.proofs.laws.cycled_is_the_least_set.Goals as goal

pub returns-clause-closed : goal.returns-clause-closed
returns-clause-closed c = cycled-closed

pub returns-clause-least : goal.returns-clause-least
returns-clause-least c = λ cl es targets set closed. cycled-least cl es targets (λ x n. set x n ≡ true) closed
