-- Edges by their ends, and where those from each position lead (rule of this project).
use Rattle.std.specs.Prelude.{ℕ, ◌-◌, ◌==◌, List, map, filter, count_by, slice_index_or, slice_set}
use Rattle.std.specs.List.{range_with_len}
use Rattle.edges.specs.declared.edge.Edge.{Edge}
use Rattle.edges.specs.declared.side.Side.{Side}
use Rattle.edges.specs.declared.side.Side.TheVariants.{Before, After}

-- the position at this end of an edge
abbrev pub end_of : Side → Edge → ℕ
end_of Before e = e.before
end_of After e = e.after

-- how many edges have this end at a position
abbrev pub edges_at : Side → List Edge → ℕ → ℕ
edges_at side edges x = count_by (λ e. x == end_of side e) edges

-- these counts with one edge of the position counted off
abbrev pub less_one : List ℕ → ℕ → List ℕ
less_one counts x = slice_set counts x (slice_index_or counts x 0 - 1)

-- where the edges from a position lead
abbrev pub edge_targets_of : List Edge → ℕ → List ℕ
edge_targets_of edges x = map (λ e. e.after) (filter (λ e. e.before == x) edges)

-- the same of each position, in the order of the positions
abbrev pub edge_targets : ℕ → List Edge → List (List ℕ)
edge_targets positions edges = map (edge_targets_of edges) (range_with_len 0 positions)
