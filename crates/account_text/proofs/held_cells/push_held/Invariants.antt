use Rattle.std.proofs.Common.{◌≡◌, ◌++◌}
use Rattle.std.specs.List.{flat_map, range_with_len}
use Rattle.cluster_types.specs.Tables.{targets_of}
use Rattle.account_text.specs.Inner.HeldTexts.{leaf_text}
use Rattle.account_text.proofs.held_cells.push_held.Given as goal

abbrev pub invariant-loop-leaf : goal.invariant-loop-leaf
invariant-loop-leaf l =
    l.text.items ≡ l.fn.text.items ++ flat_map (leaf_text l.cluster (targets_of l.chosen) (targets_of l.targets)) (range_with_len 0 l.leaf)
