use Rattle.std.proofs.Common.{◌≡◌, length, map, take}
use Rattle.cluster_types.specs.declared.placement.Decision.{Decision}
use Rattle.cluster_types.specs.Decisions.{Key}
use Rattle.placement.specs.Inner.Lending.{AreKeys, keys_among}
use Rattle.placement.proofs.order.key_slots.own_keys.Given as goal

abbrev pub invariant-loop-position : goal.invariant-loop-position
invariant-loop-position l =
    (key : Decision → Key) → l.keys ≡ map key l.set.list.items
    → AreKeys (length l.set.cluster.now.leaves) (keys_among (take l.position l.set.list.items) key) l.slots.items
