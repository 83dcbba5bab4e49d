use Rattle.std.proofs.Common.{◌≡◌, ◌++◌, map}
use Rattle.std.specs.List.{range_with_len}
use Rattle.planner.specs.Inner.Knowing as knowing
use Rattle.planner.proofs.needed_actions.knowing.push_row.Given as goal

abbrev pub invariant-loop-node : goal.invariant-loop-node
invariant-loop-node l =
    l.list.items
    ≡ l.fn.list.items ++ map (knowing.need_by l.cells l.placed.pins l.placed.table l.may_start l.nodes l.leaf) (range_with_len 0 l.node)
