-- How the rows of all positions stand in one list, side by side (rule of this project).
use Rattle.std.specs.Prelude.{◌≡◌, ◌<◌, ◌≤◌, ◌+◌, ℕ, nat_lt, List, ◌∷◌, length, map, count_by, slice_index_or}
use Rattle.std.specs.List.{range_with_len, slice_range}
use Rattle.edges.specs.declared.edge.Edge.{Edge}
use Rattle.edges.specs.declared.side.Side.TheVariants.{Before}
use Rattle.edges.specs.Rows.{edges_at, edge_targets_of}

-- what is read where no edge is
abbrev pub no_edge : Edge
no_edge = record { before = 0; after = 0 }

-- how many edges come from positions below this one
abbrev pub edges_below : List Edge → ℕ → ℕ
edges_below edges x = count_by (λ e. nat_lt e.before x) edges

-- the row of a position: it stands behind that of the position before it, up to where its own ends
abbrev pub row_of : List ℕ → List ℕ → ℕ → List ℕ
row_of ends targets x = slice_range targets (slice_index_or (0 ∷ ends) x 0) (slice_index_or ends x 0)

-- the rows of all positions
abbrev pub all_rows : List ℕ → List ℕ → List (List ℕ)
all_rows ends targets = map (row_of ends targets) (range_with_len 0 (length ends))

-- no row ends before it begins, nor behind the end of the list
pub record StandInList (ends targets : List ℕ) : Type 0 where
  pub order : (x : ℕ) → x < length ends → slice_index_or (0 ∷ ends) x 0 ≤ slice_index_or ends x 0
  pub room : (x : ℕ) → x < length ends → slice_index_or ends x 0 ≤ length targets

-- there is room for the rows of all edges, and those of the first edges are filled in so far
pub record AreRows (positions : ℕ) (edges first : List Edge) (ends targets : List ℕ) : Type 0 where
  pub size : length ends ≡ positions
  pub room : length targets ≡ length edges
  pub ends_at : (x : ℕ) → x < positions → slice_index_or ends x 0 ≡ edges_below edges x + edges_at Before first x
  pub filled : (x k : ℕ) → x < positions → k < edges_at Before first x
      → slice_index_or targets (edges_below edges x + k) 0 ≡ slice_index_or (edge_targets_of first x) k 0
