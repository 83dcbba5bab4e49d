use Rattle.std.proofs.Common.{◌≡◌, ◌++◌}
use Rattle.std.specs.List.{flat_map, range_with_len}
use Rattle.planner.specs.Inner.Actions.{cell_actions}
use Rattle.planner.specs.Inner.Works.{marks_of, needs_of}
use Rattle.planner.proofs.needed_actions.listing.push_cells.Given as goal

abbrev pub invariant-loop-node : goal.invariant-loop-node
invariant-loop-node l =
    l.list.items
    ≡ l.fn.list.items ++ flat_map (cell_actions l.cluster (needs_of l.work) (marks_of l.work) l.source l.leaf) (range_with_len 0 l.node)
