use Rattle.std.proofs.Common.{◌≡◌, ℕ, ◌<◌, ◌≤◌, slice_index}
use Rattle.score.proofs.addition.add_from.Given as goal

abbrev pub invariant-loop-node : goal.invariant-loop-node
invariant-loop-node g l = record {
  added : (k : ℕ) → l.fn.first ≤ k → k < l.node → slice_index l.into k ≡ g.A.Addition.joined (slice_index l.fn.into k) (slice_index l.other k);
  below : (k : ℕ) → k < l.fn.first → slice_index l.into k ≡ slice_index l.fn.into k;
  above : (k : ℕ) → l.node ≤ k → slice_index l.into k ≡ slice_index l.fn.into k;
}
