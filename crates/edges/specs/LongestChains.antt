-- How many edges the longest way to a position has. A way is a chain of edges (see Chains; rule of this project).
use Rattle.std.specs.Prelude.{◌≡◌, ◌+◌, ℕ, suc, zero, List, map, fold, max}
use Rattle.edges.specs.declared.edge.Edge.{Edge}
use Rattle.edges.specs.Sources.{sources_of}

-- one more than the greatest of these heights, and 0 where there are none
abbrev pub above : (ℕ → ℕ) → List ℕ → ℕ
above height xs = fold max 0 (map (λ x. height x + 1) xs)

-- how many edges the longest way to the position has, of those ways that have at most so many
abbrev pub longest_within : ℕ → List Edge → ℕ → ℕ
longest_within zero edges x = 0
longest_within (suc most) edges x = above (longest_within most edges) (sources_of edges x)

-- how many edges the longest way to the position has. Without a loop no way has more edges than there are positions
abbrev pub longest : ℕ → List Edge → ℕ → ℕ
longest positions edges x = longest_within positions edges x

-- each position is one above the highest of those from which an edge leads to it, and at 0 where none does
abbrev pub AreHeights : List Edge → (ℕ → ℕ) → Type 0
AreHeights edges height = (x : ℕ) → height x ≡ above height (sources_of edges x)
