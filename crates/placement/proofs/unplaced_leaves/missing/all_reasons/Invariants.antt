use Rattle.std.proofs.Common.{◌≡◌, ◌≤◌, length, map, vec_capacity}
use Rattle.std.specs.List.{range_with_len}
use Rattle.cluster_types.specs.Tables.{targets_of}
use Rattle.placement.specs.Inner.Reasoning.{reason_in}
use Rattle.placement.proofs.unplaced_leaves.missing.all_reasons.Given as goal

abbrev pub invariant-loop-leaf : goal.invariant-loop-leaf
invariant-loop-leaf l = record {
  made : l.none.items
      ≡ map (reason_in l.cluster l.states l.may_start l.targets.nodes (targets_of l.chosen) (targets_of l.targets) l.pins) (range_with_len 0 l.leaf);
  size : length l.none.items ≡ l.leaf;
  room : length l.cluster.leaves ≤ vec_capacity l.none;
}
