use Rattle.std.proofs.Common.{◌≡◌, map, take}
use Rattle.placement.specs.Inner.DecisionLists.{compared_key}
use Rattle.placement.proofs.order.keys.all_keys.Given as goal

abbrev pub invariant-loop-position : goal.invariant-loop-position
invariant-loop-position l = l.keys.items ≡ map (compared_key l.set.cluster.now l.states l.scores) (take l.position l.set.list.items)
