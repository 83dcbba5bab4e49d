use Rattle.std.proofs.Common.{◌≡◌, ◌++◌}
use Rattle.std.specs.List.{flat_map, range_with_len}
use Rattle.planner.specs.Inner.Actions.{fences_in}
use Rattle.planner.proofs.needed_actions.building.push_fences.Given as goal

abbrev pub invariant-loop-node : goal.invariant-loop-node
invariant-loop-node l = l.list.items ≡ l.fn.list.items ++ flat_map (fences_in l.may_fence l.states) (range_with_len 0 l.node)
