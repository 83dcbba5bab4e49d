-- What is counted of the first elements of a list, and of one more.
use Rattle.std.proofs.Common.{arith, ◌≡◌, ℕ, ◌+◌, ◌<◌, ◌≤◌, ◌==◌, cond, List, length, take, count_by, slice_index_or, refl, inl, inr}
use Rattle.std.proofs.lemmas.Bool.{cases_lt, eq-eqb}
use Rattle.std.proofs.lemmas.List.{get_or_past}
use Rattle.std.proofs.lemmas.List.Sums.{count_by_more_yes, sum_by-take-drop}

module _ (row : List ℕ) (i : ℕ) (lt : i < length row) (counts before : List ℕ)
    (few : (x : ℕ) → count_by (◌==◌ x) row ≤ slice_index_or before x 0)
    (less : (x : ℕ) → slice_index_or counts x 0 + count_by (◌==◌ x) (take i row) ≡ slice_index_or before x 0) where
  pub one-left : 1 ≤ slice_index_or counts (slice_index_or row i 0) 0
  one-left =
      let x = slice_index_or row i 0 in
      let more : count_by (◌==◌ x) (take (i + 1) row) ≡ count_by (◌==◌ x) (take i row) + 1 = count_by_more_yes (◌==◌ x) row i 0 lt (eq-eqb x x refl) in
      let all = sum_by-take-drop (λ y. cond (x == y) 1 0) row (i + 1) in
      let f = few x in
      let l = less x in
      omega arith

  pub counted-there : slice_index_or row i 0 < length counts
  counted-there =
      let one = one-left in
      elim (cases_lt (slice_index_or row i 0) (length counts)) [
        | inl inside ↦ inside
        | inr beyond ↦ (let none = get_or_past counts (slice_index_or row i 0) 0 beyond in absurd (let f : ⊥ = omega arith in f))
      ]
