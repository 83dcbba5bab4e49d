use Rattle.std.proofs.Common.{◌≡◌, ℕ, ◌<◌, ◌≤◌, slice_index}
use Rattle.score.specs.Choice.{points_at}
use Rattle.score.specs.Inner.Row.{tally_total}
use Rattle.score.specs.StoredRows.{stored_tally}
use Rattle.score.proofs.row_totals.totals_from.Given as goal

abbrev pub invariant-loop-node : goal.invariant-loop-node
invariant-loop-node l = record {
  totals : (k : ℕ) → l.fn.first ≤ k → k < l.node → points_at l.out k ≡ tally_total (stored_tally (slice_index l.minus k) (slice_index l.plus k) (slice_index l.sums k));
  below : (k : ℕ) → k < l.fn.first → points_at l.out k ≡ points_at l.fn.out k;
}
