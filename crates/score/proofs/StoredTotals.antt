-- Totals of what is stored.
use Rattle.std.proofs.Common.{◌≡◌, ℕ, ◌≤◌, pos, neg_ℤ, ◌-ℤ◌, Bool, true, false, not, ◌||◌, if◌then◌else◌, List, [], ◌∷◌, min, max, nat_lt, filter, refl, ap, ◌∙◌, arith, ℤ}
use Rattle.std.proofs.lemmas.Int.{ints, clamps}
use Rattle.std.specs.Ordering.{int_eq}
use Rattle.score.specs.Total.{has_points, sum_of, cut, infinity, total_of}
use Rattle.score.specs.Row.{score_tally_of, is_finite}
use Rattle.score.specs.Inner.Row.{tally_total}
use Rattle.score.specs.StoredRows.{bias, stored_tally}
use Rattle.score.specs.Inner.StoredTotals.{stored_least, stored_most, stored_total}

-- the choices of the lanes, one after the other
pub stored_total_by : (minus plus sum at_most cut_sum with_plus total : ℕ)
    → at_most ≡ (if nat_lt stored_most sum then stored_most else sum)
    → cut_sum ≡ (if nat_lt at_most stored_least then stored_least else at_most)
    → with_plus ≡ (if nat_lt 0 plus then stored_most else cut_sum)
    → total ≡ (if nat_lt 0 minus then stored_least else with_plus)
    → total ≡ stored_total minus plus sum
stored_total_by minus plus sum at_most cut_sum with_plus total a b c d =
    let e : cut_sum ≡ max stored_least (min stored_most sum) = grind arith in
    d ∙ ap (λ x. if nat_lt 0 minus then stored_least else x) (c ∙ ap (λ x. if nat_lt 0 plus then stored_most else x) e)

-- it is the total of the tally
pub stored_total_is : (minus plus sum : ℕ) → (pos (stored_total minus plus sum) -ℤ pos bias) ≡ tally_total (stored_tally minus plus sum)
stored_total_is minus plus sum = go (nat_lt 0 minus) (nat_lt 0 plus)
  where
    go : (m p : Bool) → (pos (if m then stored_least else (if p then stored_most else max stored_least (min stored_most sum))) -ℤ pos bias)
        ≡ (if m then neg_ℤ infinity else (if p then infinity else cut (pos sum -ℤ pos bias)))
    go true p = refl
    go false true = refl
    go false false = omega (arith, ints, clamps)

-- where neither infinity is among some terms, all are finite
pub all_finite : (terms : List ℤ) → has_points (neg_ℤ infinity) terms ≡ false → has_points infinity terms ≡ false → filter is_finite terms ≡ terms
all_finite [] m p = refl
all_finite (term ∷ terms) m p = go (int_eq term (neg_ℤ infinity)) (int_eq term infinity) (all_finite terms) m p
  where
    go : (b d : Bool) → (has_points (neg_ℤ infinity) terms ≡ false → has_points infinity terms ≡ false → filter is_finite terms ≡ terms)
        → (b || has_points (neg_ℤ infinity) terms) ≡ false → (d || has_points infinity terms) ≡ false
        → (if not (b || d) then term ∷ filter is_finite terms else filter is_finite terms) ≡ term ∷ terms
    go true d rest m p = grind arith
    go false true rest m p = grind arith
    go false false rest m p = ap (λ ts. term ∷ ts) (rest m p)

-- the total of terms by their tally
pub tally_total_is : (terms : List ℤ) → tally_total (score_tally_of terms) ≡ total_of terms
tally_total_is terms = go (has_points (neg_ℤ infinity) terms) (has_points infinity terms) (λ m p. all_finite terms m p)
  where
    go : (m p : Bool) → (m ≡ false → p ≡ false → filter is_finite terms ≡ terms)
        → (if m then neg_ℤ infinity else (if p then infinity else cut (sum_of (filter is_finite terms)))) ≡ (if m then neg_ℤ infinity else (if p then infinity else cut (sum_of terms)))
    go true p all = refl
    go false true all = refl
    go false false all = ap (λ ts. cut (sum_of ts)) (all refl refl)
