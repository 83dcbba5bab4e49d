-- The total of some scores, each seen as its points.
use Rattle.std.specs.Prelude.{ℤ, pos, neg_ℤ, ◌+ℤ◌, ◌≤ℤ◌, Bool, if◌then◌else◌, List, fold}
use Rattle.std.specs.List.{list_any}
use Rattle.std.specs.Int.{int_max, int_min}
use Rattle.std.specs.Ordering.{int_eq}

-- the points of INFINITY; those of -INFINITY are as many below zero (Pacemaker Explained, "Infinity Math")
abbrev pub infinity : ℤ
infinity = pos 1000000

abbrev pub minus_infinity : ℤ
minus_infinity = neg_ℤ infinity

-- the points of a score lie between those of -INFINITY and INFINITY
abbrev pub IsScore : ℤ → Type 0
IsScore points = (minus_infinity ≤ℤ points) × (points ≤ℤ infinity)

-- some term has these points
abbrev pub has_points : ℤ → List ℤ → Bool
has_points points terms = list_any (λ term. int_eq term points) terms

-- the exact sum of the terms
abbrev pub sum_of : List ℤ → ℤ
sum_of terms = fold (λ sum term. sum +ℤ term) (pos 0) terms

-- cut at -INFINITY and at INFINITY
abbrev pub cut : ℤ → ℤ
cut sum = int_max minus_infinity (int_min infinity sum)

-- the total: -INFINITY if a term is, else INFINITY if a term is, else the exact sum, cut once at the end
-- (Pacemaker Explained, "Infinity Math"; cutting at the end alone is a rule of this project)
abbrev pub total_of : List ℤ → ℤ
total_of terms =
    if has_points minus_infinity terms then minus_infinity else (if has_points infinity terms then infinity else cut (sum_of terms))
