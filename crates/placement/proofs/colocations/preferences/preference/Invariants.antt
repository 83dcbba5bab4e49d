use Rattle.std.proofs.Common.{◌≡◌, ◌*◌, ◌≤ℤ◌, neg_ℤ, pos, map, take}
use Rattle.score.specs.Total.{sum_of}
use Rattle.cluster_types.specs.Tables.{targets_of}
use Rattle.placement.specs.Tests.{points}
use Rattle.placement.proofs.colocations.preferences.preference.Given as goal

abbrev pub invariant-loop-rule : goal.invariant-loop-rule
invariant-loop-rule l = record {
  sum : l.sum ≡ sum_of (map (points (targets_of l.table) l.decision l.node) (take l.rule-index l.rule-items));
  low : neg_ℤ (pos (1000000 * l.rule-index)) ≤ℤ l.sum;
  high : l.sum ≤ℤ pos (1000000 * l.rule-index);
}
