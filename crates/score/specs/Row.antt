-- Rows: of each node, what its total needs of its terms.
use Rattle.std.specs.Prelude.{◌≡◌, ℕ, ℤ, pos, neg_ℤ, ◌≤ℤ◌, Bool, not, ◌||◌, if◌then◌else◌, List, ◌∷◌, ◌++◌, map, filter, slice_index_or, slice_set, []}
use Rattle.std.specs.Ordering.{int_eq}
use Rattle.score.specs.Total.{has_points, sum_of, infinity}

-- neither of the infinities
abbrev pub is_finite : ℤ → Bool
is_finite term = not (int_eq term (neg_ℤ infinity) || int_eq term infinity)

-- whether -INFINITY is among some terms, whether INFINITY is, and the exact sum of the others
pub record Tally : Type 0 where
  pub minus : Bool
  pub plus : Bool
  pub finite : ℤ

-- the tally of these terms
abbrev pub score_tally_of : List ℤ → Tally
score_tally_of terms =
    record { minus = has_points (neg_ℤ infinity) terms; plus = has_points infinity terms; finite = sum_of (filter is_finite terms) }

-- the row stands for these terms: a list for each node, from node 0 on
abbrev pub Stands : List Tally → List (List ℤ) → Type 0
Stands row terms = row ≡ map score_tally_of terms

-- these terms, with one more at the end of a node's list
abbrev pub with_term : List (List ℤ) → ℕ → ℤ → List (List ℤ)
with_term terms node term = slice_set terms node (slice_index_or terms node [] ++ term ∷ [])

-- the terms of both, node by node
abbrev pub together : List (List ℤ) → List (List ℤ) → List (List ℤ)
together [] others = []
together (terms ∷ rest) [] = []
together (terms ∷ rest) (more ∷ others) = (terms ++ more) ∷ together rest others

-- the finite sum of a node
abbrev pub finite_at : List Tally → ℕ → ℤ
finite_at row node = (slice_index_or row node (score_tally_of [])).finite

-- what a term adds to a finite sum
abbrev pub finite_part : ℤ → ℤ
finite_part term = if is_finite term then term else pos 0

-- a finite sum that a row can hold: from -10^12 to 10^12
abbrev pub IsSumInRange : ℤ → Type 0
IsSumInRange sum = (neg_ℤ (pos 1000000000000) ≤ℤ sum) × (sum ≤ℤ pos 1000000000000)
