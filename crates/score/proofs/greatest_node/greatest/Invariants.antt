use Rattle.std.proofs.Common.{◌-◌, ◌≤◌}
use Rattle.score.specs.Inner.Choice.{IsGreatestSoFar}
use Rattle.score.proofs.greatest_node.greatest.Given as goal

abbrev pub invariant-loop-at : goal.invariant-loop-at
invariant-loop-at l = record {
  within : l.at ≤ l.count;
  best : IsGreatestSoFar l.totals l.loads l.among l.at l.best;
}

abbrev pub decreases-loop-at : goal.decreases-loop-at
decreases-loop-at l = l.count - l.at
