use Rattle.edges.proofs.Longest.{longest_are_heights, one_longest}
use Rattle.edges.proofs.laws.longest_ways_are_unique.Goals as goal

pub returns-clause-made : goal.returns-clause-made
returns-clause-made c = longest_are_heights

pub returns-clause-one : goal.returns-clause-one
returns-clause-one c = one_longest
