-- How positions are cleared: a position is clear once each edge from it leads to one that was taken (rule of this project).
use Rattle.std.specs.Prelude.{◌≡◌, ◌<◌, ◌≤◌, ◌+◌, ℕ, ◌==◌, ◌&&◌, true, not, if◌then◌else◌, List, [], ◌∷◌, ◌++◌, length, take, count_by, slice_index_or, Contains}
use Rattle.std.specs.List.{IsDistinct}
use Rattle.edges.specs.declared.edge.Edge.{Edge}
use Rattle.edges.specs.Loops.{HasLoop, HasNoLoop}
use Rattle.edges.specs.Sources.{is_in_list}

-- how many edges lead from a position
abbrev pub edges_from : List Edge → ℕ → ℕ
edges_from edges x = count_by (λ e. x == e.before) edges

-- how many of them lead to positions that aren't among these
abbrev pub edges_beyond : List Edge → List ℕ → ℕ → ℕ
edges_beyond edges taken x = count_by (λ e. x == e.before && not (is_in_list taken e.after)) edges

-- the clear positions then: the position is one more if that was its last edge
abbrev pub cleared_then : List ℕ → List ℕ → ℕ → List ℕ
cleared_then waiting cleared x = if slice_index_or waiting x 0 == 1 then cleared ++ x ∷ [] else cleared

-- each edge from a position of the list leads to one that stands before it
abbrev pub LeadsBack : List Edge → List ℕ → Type 0
LeadsBack edges order =
    (k : ℕ) (e : Edge) → k < length order → Contains edges e → e.before ≡ slice_index_or order k 0
    → is_in_list (take k order) e.after ≡ true

-- the first so many clear positions were taken, and of the last of them the edges from these positions are still to be counted off
pub record Clears (positions : ℕ) (edges : List Edge) (taken : ℕ) (pending waiting cleared : List ℕ) : Type 0 where
  pub enough : taken ≤ length cleared
  pub size : length waiting ≡ positions
  pub distinct : IsDistinct ◌==◌ cleared
  pub below : (x : ℕ) → is_in_list cleared x ≡ true → x < positions
  pub counted : (x : ℕ) → x < positions
      → slice_index_or waiting x 0 ≡ edges_beyond edges (take taken cleared) x + count_by (◌==◌ x) pending
  pub ready : (x : ℕ) → x < positions → is_in_list cleared x ≡ (slice_index_or waiting x 0 == 0)
  pub back : LeadsBack edges cleared

-- all positions, each once, each behind those to which its edges lead
pub record IsBackward (positions : ℕ) (edges : List Edge) (order : List ℕ) : Type 0 where
  pub size : length order ≡ positions
  pub distinct : IsDistinct ◌==◌ order
  pub below : (x : ℕ) → is_in_list order x ≡ true → x < positions
  pub all : (x : ℕ) → x < positions → is_in_list order x ≡ true
  pub back : LeadsBack edges order

-- as many positions as can be taken so: all of them when there is no loop, and only then
pub record AreCleared (positions : ℕ) (edges : List Edge) (taken : List ℕ) : Type 0 where
  pub some : length taken < positions → HasLoop edges
  pub none : positions ≤ length taken → HasNoLoop edges
  pub all : positions ≤ length taken → IsBackward positions edges taken
