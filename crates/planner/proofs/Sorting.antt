-- A list of which any two different elements compare has an order.
use Rattle.std.proofs.Common.{arith, ◌≡◌, ◌≢◌, suc, Bool, true, false, cond, List, [], ◌∷◌, get_or, refl, subst, ◌⊎◌, inl, inr, AllPairs, Contains}
use Rattle.std.proofs.lemmas.List.Elements.{Contains-get_or}
use Rattle.std.proofs.lemmas.List.Kept.{AllPairs-cons}
use Rattle.lemmas.proofs.Members.{at_head, head_or_rest, in_none, in_rest}

module _ {X : Type 0} (less : X → X → Bool) where
  -- an element is put before the first that it is less than
  abbrev pub put : X → List X → List X
  put x [] = x ∷ []
  put x (y ∷ ys) = cond (less x y) (x ∷ y ∷ ys) (y ∷ put x ys)

  abbrev pub sorted : List X → List X
  sorted [] = []
  sorted (x ∷ xs) = put x (sorted xs)

  put_or_there : (x : X) (ys : List X) (a : X) → Contains (put x ys) a → (x ≡ a) ⊎ Contains ys a
  put_or_there x [] a h = head_or_rest x [] a h
  put_or_there x (y ∷ ys) a h = on (less x y) h (put_or_there x ys a) where
    on : (b : Bool) → Contains (cond b (x ∷ y ∷ ys) (y ∷ put x ys)) a → (Contains (put x ys) a → (x ≡ a) ⊎ Contains ys a) → (x ≡ a) ⊎ Contains (y ∷ ys) a
    on true h next = head_or_rest x (y ∷ ys) a h
    on false h next = elim (head_or_rest y (put x ys) a h) [
      | inl e ↦ inr (at_head y ys a e)
      | inr k ↦ elim (next k) [ inl e ↦ inl e | inr l ↦ inr (in_rest y ys a l) ]
    ]

  put_there : (x : X) (ys : List X) → Contains (put x ys) x
  put_there x [] = at_head x [] x refl
  put_there x (y ∷ ys) = on (less x y) (put_there x ys) where
    on : (b : Bool) → Contains (put x ys) x → Contains (cond b (x ∷ y ∷ ys) (y ∷ put x ys)) x
    on true next = at_head x (y ∷ ys) x refl
    on false next = in_rest y (put x ys) x next

  still_there : (x : X) (ys : List X) (a : X) → Contains ys a → Contains (put x ys) a
  still_there x [] a h = absurd (in_none a h)
  still_there x (y ∷ ys) a h = on (less x y) (still_there x ys a) where
    on : (b : Bool) → (Contains ys a → Contains (put x ys) a) → Contains (cond b (x ∷ y ∷ ys) (y ∷ put x ys)) a
    on true next = in_rest x (y ∷ ys) a h
    on false next = elim (head_or_rest y ys a h) [
      | inl e ↦ at_head y (put x ys) a e
      | inr k ↦ in_rest y (put x ys) a (next k)
    ]

  pub was_there : (xs : List X) (a : X) → Contains (sorted xs) a → Contains xs a
  was_there [] a h = h
  was_there (x ∷ xs) a h = elim (put_or_there x (sorted xs) a h) [
    | inl e ↦ at_head x xs a e
    | inr k ↦ in_rest x xs a (was_there xs a k)
  ]

  pub is_there : (xs : List X) (a : X) → Contains xs a → Contains (sorted xs) a
  is_there [] a h = h
  is_there (x ∷ xs) a h = elim (head_or_rest x xs a h) [
    | inl e ↦ subst (λ v. Contains (put x (sorted xs)) v) e (put_there x (sorted xs))
    | inr k ↦ still_there x (sorted xs) a (is_there xs a k)
  ]

  abbrev Before : X → X → Type 0
  Before x y = less x y ≡ true

  abbrev BeforeAll : X → List X → Type 0
  BeforeAll x ys = (y : X) → Contains ys y → less x y ≡ true

  -- each element is less than all behind it
  abbrev Rising : List X → Type 0
  Rising [] = Unit {0}
  Rising (x ∷ xs) = BeforeAll x xs × Rising xs

  rising_pairs : (xs : List X) → Rising xs → AllPairs Before xs
  rising_pairs [] h = λ i j d l m. absurd (let f : ⊥ = omega arith in f)
  rising_pairs (x ∷ xs) h = AllPairs-cons Before x xs (λ k d l. h.0 (get_or xs k d) (Contains-get_or xs k d l)) (rising_pairs xs h.1)

  module _ (chain : (x y z : X) → less x y ≡ true → less y z ≡ true → less x z ≡ true) where
    put_rising : (x : X) (ys : List X) → ((y : X) → Contains ys y → (less x y ≡ true) ⊎ (less y x ≡ true)) → Rising ys → Rising (put x ys)
    put_rising x [] either h = (λ y k. absurd (in_none y k), tt)
    put_rising x (y ∷ ys) either h = on (less x y) refl (put_rising x ys (λ z k. either z (in_rest y ys z k)) h.1) where
      behind : less x y ≡ true → BeforeAll x (y ∷ ys)
      behind e z k = elim (head_or_rest y ys z k) [ inl same ↦ rw same at e | inr l ↦ chain x y z e (h.0 z l) ]

      turned : less x y ≡ false → less y x ≡ true
      turned e = elim (either y (at_head y ys y refl)) [ inl f ↦ cc | inr f ↦ f ]

      before : less x y ≡ false → BeforeAll y (put x ys)
      before e z k = elim (put_or_there x ys z k) [ inl same ↦ rw same at (turned e) | inr l ↦ h.0 z l ]

      on : (b : Bool) → less x y ≡ b → Rising (put x ys) → Rising (cond b (x ∷ y ∷ ys) (y ∷ put x ys))
      on true e next = (behind e, h)
      on false e next = (before e, next)

    sorted_rising : (xs : List X) → AllPairs (λ x y. x ≢ y) xs
        → ((x y : X) → Contains xs x → Contains xs y → x ≢ y → (less x y ≡ true) ⊎ (less y x ≡ true)) → Rising (sorted xs)
    sorted_rising [] once either = tt
    sorted_rising (x ∷ xs) once either =
        put_rising x (sorted xs) (λ y h. apart y (was_there xs y h))
        (sorted_rising xs (λ i j d l m. once (suc i) (suc j) d (omega arith) (omega arith)) (λ y z h k. either y z (in_rest x xs y h) (in_rest x xs z k)))
      where
        differs : (y : X) → Contains xs y → x ≢ y
        differs y (k, l, is) = rw is at (once 0 (suc k) y (omega arith) (omega arith))

        apart : (y : X) → Contains xs y → (less x y ≡ true) ⊎ (less y x ≡ true)
        apart y h = either x y (at_head x xs x refl) (in_rest x xs y h) (differs y h)

    pub sorted_pairs : (xs : List X) → AllPairs (λ x y. x ≢ y) xs
        → ((x y : X) → Contains xs x → Contains xs y → x ≢ y → (less x y ≡ true) ⊎ (less y x ≡ true)) → AllPairs Before (sorted xs)
    sorted_pairs xs once either = rising_pairs (sorted xs) (sorted_rising xs once either)
