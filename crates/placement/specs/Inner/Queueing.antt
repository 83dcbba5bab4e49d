-- How positions are taken one by one: the one of the first place of those to which no edge leads from a position that wasn't taken (rule of this
-- project).
use Rattle.std.specs.Prelude.{◌≡◌, ℕ, ◌<◌, ◌==◌, ◌&&◌, Bool, true, false, not, Option, Some, None, MatchOption, List, length, count_by, slice_index_or, Contains}
use Rattle.std.specs.Option.{option_map_or}
use Rattle.edges.specs.declared.edge.Edge.{Edge}
use Rattle.edges.specs.Loops.{EndsWithin}
use Rattle.edges.specs.Rows.{edge_targets}
use Rattle.placement.specs.declared.order.queue.Queue.{Queue}

-- how many edges lead to the position from others than were taken
abbrev pub held : List Edge → List Bool → ℕ → ℕ
held edges made x = count_by (λ e. x == e.after && not (slice_index_or made e.before false)) edges

-- it wasn't taken, and no edge holds it
abbrev pub is_free : List Bool → List ℕ → ℕ → Bool
is_free made counts x = not (slice_index_or made x false) && slice_index_or counts x 0 == 0

-- the position has this place
abbrev pub has_place : List (Option ℕ) → ℕ → ℕ → Bool
has_place places x p = option_map_or (λ q. q == p) (slice_index_or places x None) false

-- the places of positions, each of which stands in the order at its place
pub record ArePlaces (order : List ℕ) (places : List (Option ℕ)) : Type 0 where
  pub there : (x p : ℕ) → slice_index_or places x None ≡ Some p → (p < length order) × (slice_index_or order p 0 ≡ x)

-- what is counted, and which places are ready
pub record Waits (edges : List Edge) (positions : ℕ) (order : List ℕ) (places : List (Option ℕ)) (made : List Bool) (counts : List ℕ) (ready : List Bool) : Type 0 where
  pub few : length order < 4294967296
  pub made_size : length made ≡ positions
  pub counts_size : length counts ≡ positions
  pub ready_size : length ready ≡ length order
  pub counted : (x : ℕ) → x < positions → slice_index_or counts x 0 ≡ held edges made x
  pub readied : (p : ℕ) → p < length order
      → slice_index_or ready p false ≡ (has_place places (slice_index_or order p 0) p && is_free made counts (slice_index_or order p 0))

-- the place is the first that is ready
pub record IsFirstPlace (ready : List Bool) (p : ℕ) : Type 0 where
  pub within : p < length ready
  pub is : slice_index_or ready p false ≡ true
  pub first : (q : ℕ) → q < p → slice_index_or ready q false ≡ false

abbrev pub IsNextPlace : List Bool → Option ℕ → Type 0
IsNextPlace ready place = MatchOption place ((p : ℕ) → p < length ready → slice_index_or ready p false ≡ false) (IsFirstPlace ready)

-- the queue of these edges between so many positions
pub record IsQueue (edges : List Edge) (positions : ℕ) (q : Queue) : Type 0 where
  pub ends : EndsWithin positions edges
  pub inside : (x : ℕ) → Contains q.order.items x → x < positions
  pub rows : q.rows ≡ edge_targets positions edges
  pub places : ArePlaces q.order.items q.places.items
  pub waits : Waits edges positions q.order.items q.places.items q.made.items q.counts.items q.ready
