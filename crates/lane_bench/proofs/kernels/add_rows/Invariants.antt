use Rattle.std.proofs.Common.{◌≡◌, ◌*◌, ◌-◌, length}
use Rattle.score.specs.Inner.SmallRows.{IsSmallRow}
use Rattle.lane_bench.proofs.kernels.add_rows.Given as goal

abbrev pub invariant-loop-round : goal.invariant-loop-round
invariant-loop-round l = record { nodes : length l.into ≡ 256; small : IsSmallRow (256 * l.round) l.into }

abbrev pub decreases-loop-round : goal.decreases-loop-round
decreases-loop-round l = 1000 - l.round
