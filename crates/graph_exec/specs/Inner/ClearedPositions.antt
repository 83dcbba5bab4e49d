-- How positions of a graph are cleared: an action by its success, and a gate once each edge to it comes from a position that is cleared (rule of
-- this project).
use Rattle.std.specs.Prelude.{◌≡◌, ◌<◌, ◌≤◌, ◌+◌, ℕ, ◌==◌, ◌&&◌, Bool, true, false, not, nat_lt, if◌then◌else◌, List, [], ◌∷◌, ◌++◌, length, take, count_by, slice_index_or, slice_set}
use Rattle.std.specs.List.{IsDistinct}
use Rattle.edges.specs.declared.edge.Edge.{Edge}
use Rattle.cluster_types.specs.Graphs.{GraphOf, IsGraph}
use Rattle.edges.specs.Sources.{is_in_list}
use Rattle.edges.specs.Rows.{edge_targets}

-- how many edges lead to a position from others than these
abbrev pub edges_held : List Edge → List ℕ → ℕ → ℕ
edges_held edges taken y = count_by (λ e. y == e.after && not (is_in_list taken e.before)) edges

-- the cleared positions when an edge to a position is counted off: a gate is one more if that was the last edge to it
abbrev pub gates_cleared_then : ℕ → List ℕ → List ℕ → ℕ → List ℕ
gates_cleared_then actions left cleared y = if slice_index_or left y 0 == 1 && not (nat_lt y actions) then cleared ++ y ∷ [] else cleared

-- the flags of the actions that may begin, likewise: an action is one more if that was the last edge to it
abbrev pub ready_then : ℕ → List ℕ → List Bool → ℕ → List Bool
ready_then actions left ready y = if slice_index_or left y 0 == 1 && nat_lt y actions then slice_set ready y true else ready

-- midway through the cleared positions: of the first so many of them all edges were counted off, but for those to the pending positions, which are yet to
-- be. What is left of each position, which are cleared, and which actions may begin, is by what was counted off
pub record ClearsGates (g : GraphOf) (begun succeeded ready : List Bool) (taken : ℕ) (pending left cleared : List ℕ) : Type 0 where
  pub enough : taken ≤ length cleared
  pub size : length left ≡ g.edges.positions
  pub ready_size : length ready ≡ length g.actions
  pub distinct : IsDistinct ◌==◌ cleared
  pub below : (x : ℕ) → is_in_list cleared x ≡ true → x < g.edges.positions
  pub counted : (x : ℕ) → x < g.edges.positions
      → slice_index_or left x 0 ≡ edges_held g.edges.list (take taken cleared) x + count_by (◌==◌ x) pending
  pub within : (x : ℕ) → count_by (◌==◌ x) pending ≤ slice_index_or left x 0
  pub gates : (x : ℕ) → length g.actions ≤ x → x < g.edges.positions → is_in_list cleared x ≡ (slice_index_or left x 0 == 0)
  pub actions : (x : ℕ) → x < length g.actions → is_in_list cleared x ≡ slice_index_or succeeded x false
  pub may_begin : (x : ℕ) → x < length g.actions
      → slice_index_or ready x false ≡ (slice_index_or left x 0 == 0 && not (slice_index_or begun x false))
  pub begun_free : (x : ℕ) → x < length g.actions → slice_index_or begun x false ≡ true → slice_index_or left x 0 ≡ 0
  pub success_begun : (x : ℕ) → x < length g.actions → slice_index_or succeeded x false ≡ true → slice_index_or begun x false ≡ true

-- at rest: the edges of each cleared position were counted off, none is pending, and there is room for all positions
pub record ClearingRests (g : GraphOf) (rows : List (List ℕ)) (begun succeeded ready : List Bool) (left cleared : List ℕ) (room : ℕ) : Type 0 where
  pub graph : IsGraph g
  pub rows_are : rows ≡ edge_targets g.edges.positions g.edges.list
  pub has_room : g.edges.positions ≤ room
  pub begun_size : length begun ≡ length g.actions
  pub succeeded_size : length succeeded ≡ length g.actions
  pub clears : ClearsGates g begun succeeded ready (length cleared) [] left cleared
