-- A total does not depend on the order of its terms.
use Rattle.std.proofs.Common.{◌≡◌, ℤ, pos, neg_ℤ, ◌+ℤ◌, List, [], ◌∷◌, fold, refl, arith}
use borrow.Author.Differences.{up, down}
use Rattle.std.specs.List.{sum_by}
use Rattle.std.specs.List.Sorted.{IsPermutation}
use Rattle.std.specs.Ordering.{int_eq}
use Rattle.std.proofs.lemmas.Int.{ints}
use Rattle.std.proofs.lemmas.List.Sorted.{list_any-IsPermutation, sum_by-IsPermutation}
use Rattle.std.proofs.lemmas.List.Sums.{sum_by-cons}
use Rattle.score.specs.Total.{infinity, has_points, sum_of, total_of}

-- an exact sum is the sum of the points above zero, less the sum of those below
sum_from : (start : ℤ) (terms : List ℤ)
    → fold (λ sum term. sum +ℤ term) start terms +ℤ pos (sum_by (λ term. down term) terms) ≡ start +ℤ pos (sum_by (λ term. up term) terms)
sum_from start [] = omega (arith, ints)
sum_from start (term ∷ terms) =
    omega (arith, ints, sum_from (start +ℤ term) terms, sum_by-cons (λ (term : ℤ). down term) term terms, sum_by-cons (λ (term : ℤ). up term) term terms)

module _ (terms others : List ℤ) (same : IsPermutation terms others) where
  -- the same terms in another order have the same sum
  same_sum : sum_of terms ≡ sum_of others
  same_sum =
      omega (
        arith,
        ints,
        sum_from (pos 0) terms,
        sum_from (pos 0) others,
        sum_by-IsPermutation (λ (term : ℤ). down term) terms others same,
        sum_by-IsPermutation (λ (term : ℤ). up term) terms others same,
      )

  -- the same infinities
  same_has : (points : ℤ) → has_points points terms ≡ has_points points others
  same_has points = list_any-IsPermutation (λ term. int_eq term points) terms others same

  -- and so the same total
  pub same_total : total_of terms ≡ total_of others
  same_total = rw (same_has (neg_ℤ infinity), same_has infinity, same_sum) refl
