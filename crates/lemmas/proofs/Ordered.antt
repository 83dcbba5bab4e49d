-- Lists in an order, and in a strict one.
use Rattle.std.proofs.Common.{arith, ◌≡◌, suc, List, [], ◌∷◌, inl, inr, refl, sym, subst}
use Rattle.std.specs.Prelude.{Contains, AllPairs}
use Rattle.lemmas.proofs.Members.{head_or_rest, in_rest}

module _ {X : Type 0} (R : X → X → Type 0) where
  -- the first is earlier than each of the rest
  pub first_earlier : (x : X) (xs : List X) (a : X) → AllPairs R (x ∷ xs) → Contains xs a → R x a
  first_earlier x xs a h (k, l, e) = rw e at (h 0 (suc k) a (omega arith) (omega arith))

  -- the rest of a list in order is in order
  pub rest_in_order : (x : X) (xs : List X) → AllPairs R (x ∷ xs) → AllPairs R xs
  rest_in_order x xs h i j d l m = h (suc i) (suc j) d (omega arith) (omega arith)

module _ {X : Type 0} (R : X → X → Type 0) (strict : (a b : X) → R a b → R b a → ⊥) where
  -- two lists in order, of which each has the other's first element, start alike
  same_first : (x y : X) (xs ys : List X) → AllPairs R (x ∷ xs) → AllPairs R (y ∷ ys) → Contains (y ∷ ys) x → Contains (x ∷ xs) y → x ≡ y
  same_first x y xs ys h k a b =
      elim (head_or_rest y ys x a) [
        | inl e ↦ sym e
        | inr c ↦ elim (head_or_rest x xs y b) [
          | inl e ↦ e
          | inr d ↦ absurd (strict x y (first_earlier R x xs y h d) (first_earlier R y ys x k c))
        ]
      ]

  -- what one list has after its first the other has too
  in_other : (x : X) (xs ys : List X) → AllPairs R (x ∷ xs) → ((a : X) → Contains (x ∷ xs) a → Contains (x ∷ ys) a)
      → (a : X) → Contains xs a → Contains ys a
  in_other x xs ys h f a c =
      elim (head_or_rest x ys a (f a (in_rest x xs a c))) [
        | inl e ↦ (
            let before : R x a = first_earlier R x xs a h c in
            let itself : R a a = rw e at before in
            absurd (strict a a itself itself))
        | inr d ↦ d
      ]

  -- two lists in order with the same elements are equal
  pub same_list : (xs ys : List X) → AllPairs R xs → AllPairs R ys → ((a : X) → Contains xs a → Contains ys a)
      → ((a : X) → Contains ys a → Contains xs a) → xs ≡ ys
  same_list [] [] h k f g = refl
  same_list [] (y ∷ ys) h k f g = absurd (omega (arith, (g y (0, omega arith, refl)).1))
  same_list (x ∷ xs) [] h k f g = absurd (omega (arith, (f x (0, omega arith, refl)).1))
  same_list (x ∷ xs) (y ∷ ys) h k f g =
      let first : y ≡ x = sym (same_first x y xs ys h k (f x (0, omega arith, refl)) (g y (0, omega arith, refl))) in
      let k' : AllPairs R (x ∷ ys) = subst (λ v. AllPairs R (v ∷ ys)) first k in
      let f' : (a : X) → Contains (x ∷ xs) a → Contains (x ∷ ys) a = subst (λ v. (a : X) → Contains (x ∷ xs) a → Contains (v ∷ ys) a) first f in
      let g' : (a : X) → Contains (x ∷ ys) a → Contains (x ∷ xs) a = subst (λ v. (a : X) → Contains (v ∷ ys) a → Contains (x ∷ xs) a) first g in
      let rest : xs ≡ ys = same_list xs ys (rest_in_order R x xs h) (rest_in_order R x ys k') (in_other x xs ys h f') (in_other x ys xs k' g') in
      cc
