use Rattle.std.proofs.Common.{◌≡◌}
use Rattle.std.specs.List.{flat_map, range_with_len}
use Rattle.placement.specs.Inner.DecisionLists.{decisions_in_leaf}
use Rattle.placement.proofs.order.decisions.all_decisions.Given as goal

abbrev pub invariant-loop-leaf : goal.invariant-loop-leaf
invariant-loop-leaf l = l.decisions.items ≡ flat_map (decisions_in_leaf l.cluster l.pins) (range_with_len 0 l.leaf)
