-- How a row is stored: flags that are 0 or not, and sums above a bias, so that lanes need no sign.
use Rattle.std.specs.Prelude.{ℕ, pos, ◌-ℤ◌, List, ◌∷◌, nat_lt, []}
use Rattle.score.specs.Row.{Tally}

-- what a stored sum of 0 is
abbrev pub bias : ℕ
bias = 1099511627776

-- the tally of stored numbers
abbrev pub stored_tally : ℕ → ℕ → ℕ → Tally
stored_tally minus plus sum = record { minus = nat_lt 0 minus; plus = nat_lt 0 plus; finite = pos sum -ℤ pos bias }

-- the tally of each node
abbrev pub tallies : List ℕ → List ℕ → List ℕ → List Tally
tallies [] pluses sums = []
tallies (minus ∷ minuses) [] sums = []
tallies (minus ∷ minuses) (plus ∷ pluses) [] = []
tallies (minus ∷ minuses) (plus ∷ pluses) (sum ∷ sums) = stored_tally minus plus sum ∷ tallies minuses pluses sums
