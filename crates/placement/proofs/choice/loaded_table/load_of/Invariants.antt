use Rattle.std.proofs.Common.{◌≡◌, ◌≤◌, count_by}
use Rattle.std.specs.List.{range_with_len}
use Rattle.cluster_types.specs.Tables.{is_somewhere, targets_of}
use Rattle.placement.proofs.choice.loaded_table.load_of.Given as goal

abbrev pub invariant-loop-leaf : goal.invariant-loop-leaf
invariant-loop-leaf l = record {
  counted : l.load ≡ count_by (λ r. is_somewhere (targets_of l.table r l.node)) (range_with_len 0 l.leaf);
  few : l.load ≤ l.leaf;
}
