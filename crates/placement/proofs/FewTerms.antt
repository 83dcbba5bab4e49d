-- How many of some terms are finite.
use Rattle.std.proofs.Common.{◌≡◌, ℕ, ◌+◌, ◌≤◌, ℤ, pos, neg_ℤ, Bool, true, false, if◌then◌else◌, List, [], ◌∷◌, ◌++◌, length, map, filter, count_by, refl, ap, ◌∙◌, arith}
use Rattle.std.proofs.lemmas.List.{length-map, length-append}
use Rattle.std.proofs.lemmas.List.Elements.{filter-append}
use Rattle.std.proofs.lemmas.List.Sums.{length-filter, count_by-le-length}
use Rattle.score.specs.Row.{is_finite}
use Rattle.placement.specs.Rows.{few, more_where}

-- some of these terms are finite, at most all
pub few-kept : {X : Type 0} (f : X → ℤ) (p : X → Bool) (xs : List X) → few (map f (filter p xs)) ≤ count_by p xs
few-kept f p xs =
    let a = length-filter is_finite (map f (filter p xs)) in
    let b = count_by-le-length is_finite (map f (filter p xs)) in
    let d = length-map (filter p xs) f in
    let e = length-filter p xs in
    omega (arith, a, b, d, e)

pub few-append : (xs ys : List ℤ) → few (xs ++ ys) ≡ few xs + few ys
few-append xs ys = ap length (filter-append is_finite xs ys) ∙ length-append (filter is_finite xs) (filter is_finite ys)

one-at-most : (term : ℤ) (b : Bool) → few (if b then term ∷ [] else []) ≤ 1
one-at-most term true =
    let a = count_by-le-length is_finite (term ∷ []) in
    let b = length-filter is_finite (term ∷ []) in
    omega (arith, a, b)
one-at-most term false = omega arith

-- one more term at most
pub few-where : (passes : ℕ → Bool) (term : ℤ) (terms : ℕ → List ℤ) (n : ℕ) → few (more_where passes term terms n) ≤ few (terms n) + 1
few-where passes term terms n =
    let a = few-append (terms n) (if passes n then term ∷ [] else []) in
    let b = one-at-most term (passes n) in
    omega (arith, a, b)

none-more : (b : Bool) → few (if b then neg_ℤ (pos 1000000) ∷ [] else []) ≡ 0
none-more true = refl
none-more false = refl

-- an infinite term isn't counted
pub few-minus : (passes : ℕ → Bool) (terms : ℕ → List ℤ) (n : ℕ) → few (more_where passes (neg_ℤ (pos 1000000)) terms n) ≡ few (terms n)
few-minus passes terms n =
    let a = few-append (terms n) (if passes n then neg_ℤ (pos 1000000) ∷ [] else []) in
    let b = none-more (passes n) in
    omega (arith, a, b)
