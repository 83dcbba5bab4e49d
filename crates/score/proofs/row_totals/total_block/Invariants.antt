use Rattle.std.proofs.Common.{◌≡◌, ℕ, ◌+◌, ◌-ℤ◌, ◌<◌, pos, slice_index}
use Rattle.score.specs.Choice.{points_at}
use Rattle.score.specs.StoredRows.{bias}
use Rattle.score.proofs.row_totals.total_block.Given as goal

abbrev pub invariant-loop-k : goal.invariant-loop-k
invariant-loop-k l = record {
  block : (k : ℕ) → k < l.k → points_at l.out (l.at + k) ≡ (pos (slice_index l.lanes k) -ℤ pos bias);
  below : (k : ℕ) → k < l.at → points_at l.out k ≡ points_at l.fn.out k;
}
