use Rattle.std.proofs.Common.{◌≡◌, ◌++◌, if◌then◌else◌, map}
use Rattle.std.specs.List.{range_with_len}
use Rattle.cluster_types.specs.declared.placement.Target.TheVariants as target
use Rattle.placement.specs.Inner.Pins.{stay_by}
use Rattle.placement.proofs.pinned_targets.push_row.Given as goal

abbrev pub invariant-loop-node : goal.invariant-loop-node
invariant-loop-node l =
    l.targets.items ≡ l.fn.targets.items ++ map (λ n. if l.pinned then stay_by l.cluster l.states l.leaf n else target.Nowhere) (range_with_len 0 l.node)
