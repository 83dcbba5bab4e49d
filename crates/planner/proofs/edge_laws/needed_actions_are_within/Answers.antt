use Rattle.planner.proofs.NeededWithin.{needed_within}
use Rattle.planner.proofs.edge_laws.needed_actions_are_within.Goals as goal

pub returns : goal.returns
returns c = needed_within
