use Rattle.std.proofs.Common.{◌≡◌, ◌++◌}
use Rattle.std.specs.List.{flat_map, range_with_len}
use Rattle.listed.specs.Flags.{is_marked}
use Rattle.planner.specs.Inner.Actions.{free_leaf_actions}
use Rattle.planner.specs.Inner.Works.{marks_of, needs_of}
use Rattle.planner.proofs.needed_actions.listing.push_leaves.Given as goal

abbrev pub invariant-loop-leaf : goal.invariant-loop-leaf
invariant-loop-leaf l =
    l.list.items
    ≡ l.fn.list.items
    ++ flat_map (λ r. free_leaf_actions l.cluster (needs_of l.work) (marks_of l.work) (is_marked l.free r) r) (range_with_len 0 l.leaf)
