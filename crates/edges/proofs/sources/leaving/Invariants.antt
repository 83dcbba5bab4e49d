use Rattle.std.proofs.Common.{◌≡◌, ◌<◌, ℕ, length, slice_index_or, take}
use Rattle.edges.specs.Inner.Clearing.{edges_from}
use Rattle.edges.proofs.sources.leaving.Given as goal

abbrev pub invariant-loop-edge : goal.invariant-loop-edge
invariant-loop-edge l = record {
  size : length l.counts.items ≡ l.positions;
  counted : (x : ℕ) → x < l.positions → slice_index_or l.counts.items x 0 ≡ edges_from (take l.edge-index l.edges) x;
}
