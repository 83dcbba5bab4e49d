use Rattle.std.proofs.Common.{◌≡◌, ℕ, ◌-◌, ◌<◌, ◌≤◌, length, slice_index}
use Rattle.score.specs.Choice.{points_at}
use Rattle.score.specs.Inner.Row.{tally_total}
use Rattle.score.specs.StoredRows.{stored_tally}
use Rattle.score.proofs.row_totals.totals_by_lanes.Given as goal

abbrev pub invariant-loop-at : goal.invariant-loop-at
invariant-loop-at l = record {
  within : l.at ≤ length l.out;
  totals : (k : ℕ) → k < l.at → points_at l.out k ≡ tally_total (stored_tally (slice_index l.minus k) (slice_index l.plus k) (slice_index l.sums k));
}

abbrev pub decreases-loop-at : goal.decreases-loop-at
decreases-loop-at l = l.count - l.at
