use Rattle.std.proofs.Common.{◌≡◌, length, map}
use Rattle.std.specs.List.{flat_map, range_with_len}
use Rattle.placement.specs.Inner.ScoresByStates.{place_by}
use Rattle.placement.proofs.totals.table.place_totals.Given as goal

abbrev pub invariant-loop-leaf : goal.invariant-loop-leaf
invariant-loop-leaf l =
    l.all.items ≡ flat_map (λ r. map (place_by l.own.cluster.now l.own.states.now r) (range_with_len 0 (length l.own.cluster.now.nodes))) (range_with_len 0 l.leaf)
