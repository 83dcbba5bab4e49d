use Rattle.std.proofs.Common.{◌≡◌, length, map}
use Rattle.std.specs.List.{flat_map, range_with_len}
use Rattle.placement.specs.Inner.ScoresByStates.{promote_by}
use Rattle.placement.proofs.totals.table.promote_totals.Given as goal

abbrev pub invariant-loop-leaf : goal.invariant-loop-leaf
invariant-loop-leaf l =
    l.all.items ≡ flat_map (λ r. map (promote_by l.cluster l.states r) (range_with_len 0 (length l.cluster.nodes))) (range_with_len 0 l.leaf)
