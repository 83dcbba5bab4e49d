use Rattle.std.proofs.Common.{◌≡◌, true}
use Rattle.cluster_types.proofs.LeastSets.{held-closed, held-least}
use Rattle.cluster_types.proofs.laws.held_is_the_least_set.Goals as goal

pub returns-clause-closed : goal.returns-clause-closed
returns-clause-closed c = held-closed

pub returns-clause-least : goal.returns-clause-least
returns-clause-least c = λ cl es table set closed. held-least cl es table (λ x n. set x n ≡ true) closed
