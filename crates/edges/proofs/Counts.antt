-- How many edges lead from a position to others than those that are taken, one position more.
use Rattle.std.proofs.Common.{◌≡◌, ◌+◌, ◌==◌, ◌&&◌, ◌||◌, not, ℕ, Bool, false, List, count_by}
use Rattle.lemmas.proofs.Counts.{beyond_by_more}
use Rattle.edges.specs.declared.edge.Edge.{Edge}
use Rattle.edges.specs.Sources.{sources_of}

abbrev pub beyond : ℕ → (ℕ → Bool) → Edge → Bool
beyond x taken e = x == e.before && not (taken e.after)

pub beyond_more : (x y : ℕ) (before after : ℕ → Bool) → ((a : ℕ) → after a ≡ (before a || (a == y))) → before y ≡ false → (edges : List Edge)
    → count_by (beyond x before) edges ≡ count_by (beyond x after) edges + count_by (◌==◌ x) (sources_of edges y)
beyond_more = beyond_by_more (λ e. e.before) (λ e. e.after)
