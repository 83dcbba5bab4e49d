-- Positions in lists.
use Rattle.std.proofs.Common.{arith, ◌≡◌, ◌<◌, ◌≤◌, ◌==◌, ◌||◌, ℕ, suc, zero, Bool, true, false, List, [], ◌∷◌, ◌++◌, length, take, slice_index_or, refl}
use Rattle.std.specs.Cmp.{IsEquivalence, nat_eq_equiv}
use Rattle.std.specs.List.{AllByRecursion, IsDistinct}
use Rattle.std.proofs.lemmas.Bool.{eqb-false}
use Rattle.std.proofs.lemmas.List.{length-take, get_or-take}
use Rattle.std.proofs.lemmas.List.Folds.{list_any-append, list_any_at}
use Rattle.std.proofs.lemmas.Map.Keys.{apart_from_distinct}
use Rattle.edges.specs.Sources.{is_in_list}

pub equal_laws : IsEquivalence ◌==◌
equal_laws = nat_eq_equiv

-- where a member stands
pub record StandsAt (xs : List ℕ) (x : ℕ) : Type 0 where
  pub place : ℕ
  pub within : place < length xs
  pub here : x ≡ slice_index_or xs place 0

one_on : (y : ℕ) (xs : List ℕ) (x : ℕ) → StandsAt xs x → StandsAt (y ∷ xs) x
one_on y xs x s = record { place = suc s.place; within = omega (arith, s.within); here = s.here }

place_in : (y : ℕ) (xs : List ℕ) (x : ℕ) → (same : Bool) → (x == y) ≡ same → (is_in_list xs x ≡ true → StandsAt xs x) → same || is_in_list xs x ≡ true
    → StandsAt (y ∷ xs) x
place_in y xs x true e rest h = record { place = 0; within = omega arith; here = grind arith }
place_in y xs x false e rest h = one_on y xs x (rest h)

pub place_of : (xs : List ℕ) (x : ℕ) → is_in_list xs x ≡ true → StandsAt xs x
place_of [] x h = cc
place_of (y ∷ xs) x h = place_in y xs x (x == y) refl (place_of xs x) h

pub has_at : (xs : List ℕ) (k : ℕ) → k < length xs → is_in_list xs (slice_index_or xs k 0) ≡ true
has_at xs k lt = list_any_at (◌==◌ (slice_index_or xs k 0)) xs k 0 lt (grind arith)

-- what stands in a front stands in each longer one
pub has_take : (j k : ℕ) (xs : List ℕ) (x : ℕ) → j ≤ k → is_in_list (take j xs) x ≡ true → is_in_list (take k xs) x ≡ true
has_take zero k xs x le h = cc
has_take (suc j) zero xs x le h = absurd (let f : ⊥ = omega arith in f)
has_take (suc j) (suc k) [] x le h = h
has_take (suc j) (suc k) (y ∷ xs) x le h = on (x == y) (has_take j k xs x (omega arith)) h where
  on : (same : Bool) → (is_in_list (take j xs) x ≡ true → is_in_list (take k xs) x ≡ true) → same || is_in_list (take j xs) x ≡ true
      → same || is_in_list (take k xs) x ≡ true
  on true f g = refl
  on false f g = f g

pub has_front : (k : ℕ) (xs : List ℕ) (x : ℕ) → is_in_list (take k xs) x ≡ true → is_in_list xs x ≡ true
has_front zero xs x h = cc
has_front (suc k) [] x h = h
has_front (suc k) (y ∷ xs) x h = on (x == y) (has_front k xs x) h where
  on : (same : Bool) → (is_in_list (take k xs) x ≡ true → is_in_list xs x ≡ true) → same || is_in_list (take k xs) x ≡ true → same || is_in_list xs x ≡ true
  on true f g = refl
  on false f g = f g

pub has_push : (xs : List ℕ) (y x : ℕ) → is_in_list (xs ++ y ∷ []) x ≡ (is_in_list xs x || (x == y))
has_push xs y x = on (x == y) (list_any-append (◌==◌ x) xs (y ∷ [])) where
  on : (same : Bool) → is_in_list (xs ++ y ∷ []) x ≡ (is_in_list xs x || (same || false)) → is_in_list (xs ++ y ∷ []) x ≡ (is_in_list xs x || same)
  on true h = h
  on false h = h

-- what stands at a place doesn't stand before it
apart : (xs : List ℕ) (k : ℕ) → IsDistinct ◌==◌ xs → k < length xs → StandsAt (take k xs) (slice_index_or xs k 0) → ⊥
apart xs k d lt s =
    let before : s.place < k = omega (arith, s.within, length-take k xs) in
    let same : slice_index_or xs s.place 0 ≡ slice_index_or xs k 0 = let h = s.here in let t = get_or-take k xs s.place 0 before in cc in
    let differ : (slice_index_or xs s.place 0 == slice_index_or xs k 0) ≡ false = apart_from_distinct ◌==◌ xs s.place k 0 d before lt in
    eqb-false _ _ differ same

pub not_before : (xs : List ℕ) (k : ℕ) → IsDistinct ◌==◌ xs → k < length xs → is_in_list (take k xs) (slice_index_or xs k 0) ≡ false
not_before xs k d lt = on (is_in_list (take k xs) (slice_index_or xs k 0)) refl where
  on : (b : Bool) → is_in_list (take k xs) (slice_index_or xs k 0) ≡ b → is_in_list (take k xs) (slice_index_or xs k 0) ≡ false
  on true h = absurd (apart xs k d lt (place_of (take k xs) (slice_index_or xs k 0) h))
  on false h = h

none_on : (x y : ℕ) (xs : List ℕ) (same : Bool) → (x == y) ≡ same → same || is_in_list xs x ≡ false
    → (is_in_list xs x ≡ false → AllByRecursion (λ y. (x == y) ≡ false) xs)
    → AllByRecursion (λ y. (x == y) ≡ false) (y ∷ xs)
none_on x y xs true e g rest = cc
none_on x y xs false e g rest = (e, rest g)

pub none_all : (x : ℕ) (xs : List ℕ) → is_in_list xs x ≡ false → AllByRecursion (λ y. (x == y) ≡ false) xs
none_all x [] h = tt
none_all x (y ∷ xs) h = none_on x y xs (x == y) refl h (none_all x xs)
