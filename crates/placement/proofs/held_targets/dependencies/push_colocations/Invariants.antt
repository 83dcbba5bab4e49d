use Rattle.std.proofs.Common.{◌≡◌, ◌++◌, take}
use Rattle.placement.specs.Inner.Dependencies.{by_colocations}
use Rattle.placement.proofs.held_targets.dependencies.push_colocations.Given as goal

abbrev pub invariant-loop-colocation : goal.invariant-loop-colocation
invariant-loop-colocation l =
    l.list.items ≡ l.fn.list.items ++ by_colocations l.cluster l.pins (take l.colocation-index l.cluster.colocations)
