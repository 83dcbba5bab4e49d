use Rattle.std.proofs.Common.{◌≡◌, ℕ, ◌-◌, ◌<◌, ◌≤◌, length, slice_index}
use Rattle.score.proofs.addition.add_by_lanes.Given as goal

abbrev pub invariant-loop-at : goal.invariant-loop-at
invariant-loop-at g l = record {
  within : l.at ≤ length l.into;
  below : (k : ℕ) → k < l.at → slice_index l.into k ≡ g.A.Addition.joined (slice_index l.fn.into k) (slice_index l.other k);
  above : (k : ℕ) → l.at ≤ k → slice_index l.into k ≡ slice_index l.fn.into k;
}

abbrev pub decreases-loop-at : goal.decreases-loop-at
decreases-loop-at g l = l.count - l.at
