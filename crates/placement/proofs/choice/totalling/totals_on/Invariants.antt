use Rattle.std.proofs.Common.{◌≡◌, ◌≤◌, length, map, vec_capacity}
use Rattle.std.specs.List.{range_with_len}
use Rattle.cluster_types.specs.Tables.{targets_of}
use Rattle.placement.specs.Inner.Reads.{total_in}
use Rattle.placement.proofs.choice.totalling.totals_on.Given as goal

abbrev pub invariant-loop-node : goal.invariant-loop-node
invariant-loop-node l = record {
  made : l.all.items ≡ map (total_in l.known.cluster.now l.known.scores.now (targets_of l.table) l.decision) (range_with_len 0 l.node);
  size : length l.all.items ≡ l.node;
  room : length l.preferences.items ≤ vec_capacity l.all;
}
