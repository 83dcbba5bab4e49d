use Rattle.std.proofs.Common.{◌≡◌, map}
use Rattle.cluster_types.specs.declared.placement.Decision.{Decision}
use Rattle.cluster_types.specs.Decisions.{Key}
use Rattle.placement.proofs.LentKeys.{Turned}
use Rattle.placement.proofs.order.lending.lent_keys.Given as goal

abbrev pub invariant-loop-turn : goal.invariant-loop-turn
invariant-loop-turn l = (key : Decision → Key) → l.keys ≡ map key l.set.list.items → Turned l.set.cluster.now l.set.list.items key l._turn l.slots.items
