-- The order in which chains of edges are followed (rule of this project).
use Rattle.std.specs.Prelude.{◌≡◌, ◌<◌, ℕ, List, length, slice_index_or}
use Rattle.edges.specs.declared.edge.Edge.{Edge}

-- each edge stands behind those that lead to where it begins
abbrev pub AreEdgesInOrder : List Edge → Type 0
AreEdgesInOrder edges =
    (i j : ℕ) (d : Edge) → i < length edges → j < length edges → (slice_index_or edges i d).after ≡ (slice_index_or edges j d).before → i < j
