use Rattle.std.proofs.Common.{ℕ, ◌<◌, slice_index_or}
use Rattle.edges.proofs.edge.end_within.Given as goal

abbrev pub invariant-loop-edge : goal.invariant-loop-edge
invariant-loop-edge l = (k : ℕ) → k < l.edge-index → ((slice_index_or l.edges k (record { before = 0; after = 0 })).before < l.positions)
    × ((slice_index_or l.edges k (record { before = 0; after = 0 })).after < l.positions)
