-- Three actions and a gate, through which the first two come before the third (rule of this project).
use Rattle.std.specs.Prelude.{ℕ, [], ◌∷◌}
use Rattle.edges.specs.declared.edge.Edge.{Edge}
use Rattle.cluster_types.specs.declared.journal.Action.TheVariants.{Probe}
use Rattle.cluster_types.specs.Graphs.{GraphOf}

abbrev pub small_edge : ℕ → ℕ → Edge
small_edge x y = record { before = x; after = y }

abbrev pub small_graph : GraphOf
small_graph = record {
  actions = Probe 0 0 ∷ Probe 0 1 ∷ Probe 0 2 ∷ [];
  edges = record { positions = 4; list = small_edge 0 3 ∷ small_edge 1 3 ∷ small_edge 3 2 ∷ [] };
}
