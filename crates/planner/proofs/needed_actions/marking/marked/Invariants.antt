use Rattle.std.proofs.Common.{◌≡◌, map}
use Rattle.std.specs.List.{range_with_len}
use Rattle.planner.specs.Inner.ByNeeds as by_needs
use Rattle.planner.proofs.needed_actions.marking.marked.Given as goal

abbrev pub invariant-loop-node : goal.invariant-loop-node
invariant-loop-node l = l.marked.items ≡ map (by_needs.is_marked_on l.nodes l.needs l.order l.flags l.somewhere) (range_with_len 0 l.node)
