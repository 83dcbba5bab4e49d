use Rattle.std.proofs.Common.{◌≡◌, take}
use Rattle.placement.specs.Inner.Turns.{slots_of}
use Rattle.placement.proofs.order.ranked_decisions.slots_of.Given as goal

abbrev pub invariant-loop-one : goal.invariant-loop-one
invariant-loop-one l = l.slots.items ≡ slots_of (take l.one-index l.ranked)
