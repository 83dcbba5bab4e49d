use Rattle.std.proofs.Common.{◌≡◌, map}
use Rattle.std.specs.List.{range_with_len}
use Rattle.planner.specs.Inner.ByNeeds as by_needs
use Rattle.planner.specs.Inner.Levels.{marks_in}
use Rattle.planner.proofs.needed_actions.marking.disturbed.Given as goal

abbrev pub invariant-loop-node : goal.invariant-loop-node
invariant-loop-node l =
    l.flags.items
    ≡ map (by_needs.is_disturbed_by_needs l.marks.nodes l.needs (marks_in l.marks.nodes l.marks.cells.items) l.order) (range_with_len 0 l.node)
