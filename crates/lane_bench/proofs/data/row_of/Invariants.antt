use Rattle.std.proofs.Common.{◌≡◌, length}
use Rattle.score.specs.Inner.SmallRows.{IsSmallRow}
use Rattle.lane_bench.proofs.data.row_of.Given as goal

abbrev pub invariant-loop-node : goal.invariant-loop-node
invariant-loop-node l = record { nodes : length l.row ≡ 256; small : IsSmallRow l.node l.row }
