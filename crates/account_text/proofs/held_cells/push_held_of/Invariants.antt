use Rattle.std.proofs.Common.{◌≡◌, ◌++◌}
use Rattle.std.specs.List.{flat_map, range_with_len}
use Rattle.cluster_types.specs.Tables.{targets_of}
use Rattle.account_text.specs.Inner.HeldTexts.{cell_text}
use Rattle.account_text.proofs.held_cells.push_held_of.Given as goal

abbrev pub invariant-loop-node : goal.invariant-loop-node
invariant-loop-node l =
    l.text.items ≡ l.fn.text.items ++ flat_map (cell_text l.cluster (targets_of l.chosen) (targets_of l.targets) l.leaf) (range_with_len 0 l.node)
