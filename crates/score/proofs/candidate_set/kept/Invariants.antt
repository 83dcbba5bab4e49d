use Rattle.std.proofs.Common.{◌≡◌, ℕ, ◌*◌, ◌<◌, ◌≤◌, ◌&&◌, false, length}
use Rattle.score.specs.Choice.{has_enough}
use Rattle.score.specs.NodeSet.{has}
use Rattle.score.proofs.candidate_set.kept.Given as goal

abbrev pub invariant-loop-place : goal.invariant-loop-place
invariant-loop-place l = record {
  four : length l.kept.words ≡ 4;
  below : (n : ℕ) → n < 64 * l.place → has l.kept n ≡ (has l.within n && has_enough l.totals n);
  above : (n : ℕ) → 64 * l.place ≤ n → has l.kept n ≡ false;
}
