use Rattle.std.proofs.Common.{◌≡◌, map}
use Rattle.std.specs.List.{range_with_len}
use Rattle.placement.specs.Inner.Pins.{pin_by}
use Rattle.placement.proofs.pinning.all_pins.Given as goal

abbrev pub invariant-loop-leaf : goal.invariant-loop-leaf
invariant-loop-leaf l = l.pins.items ≡ map (pin_by l.cluster l.states) (range_with_len 0 l.leaf)
