use Rattle.std.proofs.Common.{◌≡◌, ℕ, ◌+◌, ◌+ℤ◌, ◌<◌, pos, length, slice_index}
use Rattle.score.specs.Choice.{points_at}
use Rattle.score.proofs.lanes.loaded.Given as goal

abbrev pub invariant-loop-k : goal.invariant-loop-k
invariant-loop-k l = record {
  lanes : length l.lanes ≡ 8;
  each : (k : ℕ) → k < l.k → pos (slice_index l.lanes k) ≡ (points_at l.totals (l.at + k) +ℤ pos 1000000);
}
