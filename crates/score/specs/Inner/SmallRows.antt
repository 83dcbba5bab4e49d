-- Rows of few terms.
use Rattle.std.specs.Prelude.{ℕ, ◌*◌, ◌≤ℤ◌, pos, neg_ℤ, List}
use Rattle.score.specs.Row.{Tally, finite_at}

-- each finite sum is one that so many terms can have
pub record IsSmallRow (terms : ℕ) (row : List Tally) : Type 0 where
  pub least : (node : ℕ) → neg_ℤ (pos (1000000 * terms)) ≤ℤ finite_at row node
  pub most : (node : ℕ) → finite_at row node ≤ℤ pos (1000000 * terms)
