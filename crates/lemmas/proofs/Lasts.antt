-- What one more element is to what is behind the last that passes, and to the last.
use Rattle.std.proofs.Common.{◌≡◌, ℕ, ◌+◌, ◌-◌, ◌≤◌, Bool, true, false, not, Option, Some, List, [], ◌∷◌, ◌++◌, length, reverse, refl, length-append, arith}
use Rattle.std.proofs.lemmas.List.{drop-append-le, drop_all, reverse-append, length-reverse}
use Rattle.std.proofs.lemmas.List.Sums.{prefix_len-le-length}
use Rattle.std.specs.List.{last_or, after_last, suffix_len}

module _ {X : Type 0} (p : X → Bool) (xs : List X) (x : X) where
  -- the last element passes: nothing is behind it
  pub after_last-here : p x ≡ true → after_last p (xs ++ x ∷ []) ≡ []
  after_last-here e =
      let back : reverse (xs ++ x ∷ []) ≡ x ∷ reverse xs = reverse-append xs (x ∷ []) in
      let none : suffix_len (λ y. not (p y)) (xs ++ x ∷ []) ≡ 0 = rw (back, e) refl in
      rw none (drop_all (length (xs ++ x ∷ []) - 0) (xs ++ x ∷ []) (omega arith))

  -- it doesn't: it is behind the last one that does
  pub after_last-more : p x ≡ false → after_last p (xs ++ x ∷ []) ≡ after_last p xs ++ x ∷ []
  after_last-more e =
      let back : reverse (xs ++ x ∷ []) ≡ x ∷ reverse xs = reverse-append xs (x ∷ []) in
      let behind = suffix_len (λ y. not (p y)) xs in
      let one : suffix_len (λ y. not (p y)) (xs ++ x ∷ []) ≡ 1 + behind = rw (back, e) refl in
      let few : behind ≤ length xs = rw (← length-reverse xs) (prefix_len-le-length (λ y. not (p y)) (reverse xs)) in
      let place : length (xs ++ x ∷ []) - (1 + behind) ≡ length xs - behind = omega (arith, length-append xs (x ∷ []), few) in
      rw (one, place) (drop-append-le (length xs - behind) xs (x ∷ []) (omega arith))

pub last-more : {X : Type 0} (o : Option X) (xs : List X) (x : X) → last_or o (xs ++ x ∷ []) ≡ Some x
last-more o [] x = refl
last-more o (y ∷ xs) x = last-more (Some y) xs x
