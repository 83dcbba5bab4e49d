use Rattle.std.proofs.Common.{◌≡◌, length, map}
use Rattle.std.specs.List.{flat_map, range_with_len}
use Rattle.placement.specs.Inner.Pins.{pinned_in}
use Rattle.placement.proofs.pinned_targets.targets_before.Given as goal

abbrev pub invariant-loop-leaf : goal.invariant-loop-leaf
invariant-loop-leaf l =
    l.targets.items ≡ flat_map (λ r. map (pinned_in l.cluster l.pins l.states r) (range_with_len 0 (length l.cluster.nodes))) (range_with_len 0 l.leaf)
