use Rattle.std.proofs.Common.{◌≡◌, map, take}
use Rattle.cluster_types.specs.declared.placement.Decision.{Decision}
use Rattle.cluster_types.specs.Decisions.{Key}
use Rattle.placement.specs.Inner.EffectiveKeys.{effective_in}
use Rattle.placement.proofs.order.effective.effective_keys.Given as goal

abbrev pub invariant-loop-position : goal.invariant-loop-position
invariant-loop-position l =
    (key : Decision → Key) → l.keys ≡ map key l.set.list.items
    → l.all.items ≡ map (effective_in l.set.cluster.now l.set.list.items key) (take l.position l.set.list.items)
