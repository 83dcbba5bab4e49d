use Rattle.std.proofs.Common.{◌≡◌, ◌≤◌, count_by}
use Rattle.std.specs.List.{range_with_len}
use Rattle.placement.specs.OwnRows.{is_active_by}
use Rattle.placement.proofs.choice.cells.active_count.Given as goal

abbrev pub invariant-loop-node : goal.invariant-loop-node
invariant-loop-node l = record {
  counted : l.count ≡ count_by (is_active_by l.cluster l.states l.leaf) (range_with_len 0 l.node);
  few : l.count ≤ l.node;
}
