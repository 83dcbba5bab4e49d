use Rattle.std.proofs.Common.{◌≡◌, ◌<◌, [], ℕ, length, slice_index_or, take}
use Rattle.edges.specs.Sources.{sources_of}
use Rattle.edges.proofs.sources.sources.Given as goal

abbrev pub invariant-loop-edge : goal.invariant-loop-edge
invariant-loop-edge l = record {
  size : length l.rows.items ≡ l.positions;
  sources : (y : ℕ) → y < l.positions → slice_index_or l.rows.items y [] ≡ sources_of (take l.edge-index l.edges) y;
}
