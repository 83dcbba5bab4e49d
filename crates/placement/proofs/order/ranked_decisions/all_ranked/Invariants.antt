use Rattle.std.proofs.Common.{◌≡◌, map, take}
use Rattle.cluster_types.specs.declared.placement.Decision.{Decision}
use Rattle.cluster_types.specs.Decisions.{Key}
use Rattle.placement.specs.Inner.Turns.{ranked_by}
use Rattle.placement.proofs.order.ranked_decisions.all_ranked.Given as goal

abbrev pub invariant-loop-position : goal.invariant-loop-position
invariant-loop-position l = (key : Decision → Key) → l.keys ≡ map key l.set.list.items → l.ranked.items ≡ ranked_by key (take l.position l.set.list.items)
