use Rattle.std.proofs.Common.{◌-◌, ◌≤◌}
use Rattle.score.specs.Inner.Choice.{SaysEnough}
use Rattle.score.proofs.candidate_set.word_by_lanes.Given as goal

abbrev pub invariant-loop-at : goal.invariant-loop-at
invariant-loop-at l = record {
  from : l.first ≤ l.at;
  within : l.at ≤ l.end;
  word : SaysEnough l.totals l.first l.at l.word;
}

abbrev pub decreases-loop-at : goal.decreases-loop-at
decreases-loop-at l = l.end - l.at
