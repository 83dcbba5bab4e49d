-- Tallies of terms, and tallies that are stored.
use Rattle.std.proofs.Common.{◌≡◌, ℕ, ◌<◌, suc, zero, ℤ, pos, neg_ℤ, ◌+ℤ◌, ◌≤ℤ◌, Bool, true, false, ◌||◌, if◌then◌else◌, List, [], ◌∷◌, ◌++◌, length, get_or, nat_lt, fold, filter, refl, sym, ap, ◌∙◌, arith}
use Rattle.std.specs.Int.Bits.{bit_or, or_zero_l}
use Rattle.std.proofs.lemmas.Nat.{le_or_l}
use Rattle.std.proofs.lemmas.Bool.{lt-ltb}
use Rattle.std.proofs.lemmas.Int.{ints}
use Rattle.std.proofs.lemmas.List.Sums.{fold-append}
use Rattle.std.proofs.lemmas.List.Folds.{list_any-append}
use Rattle.std.proofs.lemmas.List.Elements.{filter-append}
use Rattle.score.specs.Total.{IsScore, sum_of}
use Rattle.score.specs.Row.{Tally, score_tally_of, is_finite, finite_part, together}
use Rattle.score.specs.StoredRows.{tallies, stored_tally}

-- the tally of two lists of terms, one after the other
abbrev pub join : Tally → Tally → Tally
join a b = record { minus = a.minus || b.minus; plus = a.plus || b.plus; finite = a.finite +ℤ b.finite }

-- tallies with equal parts are equal
pub tally_is : (a b : Tally) → a.minus ≡ b.minus → a.plus ≡ b.plus → a.finite ≡ b.finite → a ≡ b
tally_is a b minus plus finite =
    ap (λ (x : Bool). let t : Tally = record { minus = x; plus = a.plus; finite = a.finite } in t) minus
    ∙ (ap (λ (x : Bool). let t : Tally = record { minus = b.minus; plus = x; finite = a.finite } in t) plus
    ∙ ap (λ (x : ℤ). let t : Tally = record { minus = b.minus; plus = b.plus; finite = x } in t) finite)

-- a sum that begins at another number
pub sum_from : (a : ℤ) (terms : List ℤ) → fold (λ sum (term : ℤ). sum +ℤ term) a terms ≡ a +ℤ sum_of terms
sum_from a [] = omega (arith, ints)
sum_from a (term ∷ terms) =
    let x = sum_from (a +ℤ term) terms in
    let y = sum_from (pos 0 +ℤ term) terms in
    omega (arith, ints)

-- the sum of two lists, one after the other
pub sum_of-append : (xs ys : List ℤ) → sum_of (xs ++ ys) ≡ sum_of xs +ℤ sum_of ys
sum_of-append xs ys = fold-append (λ sum (term : ℤ). sum +ℤ term) (pos 0) xs ys ∙ sum_from (sum_of xs) ys

-- their tally
pub tally_of-append : (xs ys : List ℤ) → score_tally_of (xs ++ ys) ≡ join (score_tally_of xs) (score_tally_of ys)
tally_of-append xs ys =
    tally_is _ _ (list_any-append _ xs ys) (list_any-append _ xs ys)
    (ap sum_of (filter-append is_finite xs ys) ∙ sum_of-append (filter is_finite xs) (filter is_finite ys))

-- a flag of both
pub flag_or : (a b : ℕ) → nat_lt 0 (bit_or a b) ≡ (nat_lt 0 a || nat_lt 0 b)
flag_or zero b = ap (nat_lt 0) (or_zero_l b)
flag_or (suc a) b =
    let both = lt-ltb 0 (bit_or (suc a) b) (omega (arith, le_or_l (suc a) b)) in
    let ours = lt-ltb 0 (suc a) (omega arith) in
    both ∙ sym (ap (λ x. x || nat_lt 0 b) ours)

-- a tally for each node
pub length-tallies : (minuses pluses sums : List ℕ) → length minuses ≡ length sums → length pluses ≡ length sums
    → length (tallies minuses pluses sums) ≡ length sums
length-tallies [] pluses sums m p = m
length-tallies (minus ∷ minuses) [] sums m p = p
length-tallies (minus ∷ minuses) (plus ∷ pluses) [] m p = refl
length-tallies (minus ∷ minuses) (plus ∷ pluses) (sum ∷ sums) m p = ap suc (length-tallies minuses pluses sums (omega arith) (omega arith))

-- the tally of a node
pub get_or-tallies : (minuses pluses sums : List ℕ) (k : ℕ) (d : Tally) → k < length minuses → k < length pluses → k < length sums
    → get_or (tallies minuses pluses sums) k d ≡ stored_tally (get_or minuses k 0) (get_or pluses k 0) (get_or sums k 0)
get_or-tallies [] pluses sums k d m p s = absurd (let e : ⊥ = omega arith in e)
get_or-tallies (minus ∷ minuses) [] sums k d m p s = absurd (let e : ⊥ = omega arith in e)
get_or-tallies (minus ∷ minuses) (plus ∷ pluses) [] k d m p s = absurd (let e : ⊥ = omega arith in e)
get_or-tallies (minus ∷ minuses) (plus ∷ pluses) (sum ∷ sums) zero d m p s = refl
get_or-tallies (minus ∷ minuses) (plus ∷ pluses) (sum ∷ sums) (suc k) d m p s =
    get_or-tallies minuses pluses sums k d (omega arith) (omega arith) (omega arith)

-- as many lists as either row has
pub length-together : (terms others : List (List ℤ)) → length terms ≡ length others → length (together terms others) ≡ length terms
length-together [] others e = refl
length-together (terms ∷ rest) [] e = sym e
length-together (terms ∷ rest) (more ∷ others) e = ap suc (length-together rest others (omega arith))

-- the terms of a node in both
pub get_or-together : (terms others : List (List ℤ)) (k : ℕ) → length terms ≡ length others
    → get_or (together terms others) k [] ≡ get_or terms k [] ++ get_or others k []
get_or-together [] [] k e = refl
get_or-together [] (more ∷ others) k e = absurd (let f : ⊥ = omega arith in f)
get_or-together (terms ∷ rest) [] k e = absurd (let f : ⊥ = omega arith in f)
get_or-together (terms ∷ rest) (more ∷ others) zero e = refl
get_or-together (terms ∷ rest) (more ∷ others) (suc k) e = get_or-together rest others k (omega arith)

-- a term adds at most a million to a finite sum, and takes at most as much away
pub finite_part_least : (term : ℤ) → IsScore term → neg_ℤ (pos 1000000) ≤ℤ finite_part term
finite_part_least term within = go (is_finite term)
  where
    go : (b : Bool) → neg_ℤ (pos 1000000) ≤ℤ (if b then term else pos 0)
    go true = within.0
    go false = omega (arith, ints)

-- the same from above
pub finite_part_most : (term : ℤ) → IsScore term → finite_part term ≤ℤ pos 1000000
finite_part_most term within = go (is_finite term)
  where
    go : (b : Bool) → (if b then term else pos 0) ≤ℤ pos 1000000
    go true = within.1
    go false = omega (arith, ints)
