-- Lists in which a relation holds of each element and each later one.
use Rattle.std.proofs.Common.{arith, ◌≡◌, ◌≢◌, ◌≤◌, ◌+◌, ℕ, suc, zero, Bool, true, false, if◌then◌else◌, List, [], ◌∷◌, ◌++◌, map, refl, ap, inl, inr, AllPairs, Contains}
use Rattle.std.specs.List.{flat_map, range_with_len}
use Rattle.std.proofs.lemmas.List.Elements.{Contains-append_cases}
use Rattle.std.proofs.lemmas.List.Kept.{AllPairs-cons}
use Rattle.lemmas.proofs.Members.{at_head, head_or_rest, in_none, in_rest, of_flat, of_map}
use Rattle.lemmas.proofs.Ordered.{first_earlier, rest_in_order}
use Rattle.lemmas.proofs.Searches.{all_where}

module _ {X : Type 0} (R : X → X → Type 0) where
  pub no_pairs : AllPairs R []
  no_pairs i j d lt l = absurd (let f : ⊥ = omega arith in f)

  pub pair_more : (x : X) (xs : List X) → ((y : X) → Contains xs y → R x y) → AllPairs R xs → AllPairs R (x ∷ xs)
  pair_more x xs f rest = AllPairs-cons R x xs (all_where (R x) xs f) rest

  pub pairs_joined : (xs ys : List X) → AllPairs R xs → AllPairs R ys → ((x y : X) → Contains xs x → Contains ys y → R x y) → AllPairs R (xs ++ ys)
  pairs_joined [] ys h k f = k
  pairs_joined (x ∷ xs) ys h k f =
      pair_more x (xs ++ ys)
      (λ y c. elim (Contains-append_cases xs ys y c) [
        | inl own ↦ first_earlier R x xs y h own
        | inr other ↦ f x y (at_head x xs x refl) other
      ])
      (pairs_joined xs ys (rest_in_order R x xs h) k (λ a b m n. f a b (in_rest x xs a m) n))

  pub pairs_if : (b : Bool) (xs : List X) → AllPairs R xs → AllPairs R (if b then xs else [])
  pairs_if true xs h = h
  pairs_if false xs h = no_pairs

  pub pairs_unless : (b : Bool) (xs : List X) → AllPairs R xs → AllPairs R (if b then [] else xs)
  pairs_unless true xs h = no_pairs
  pairs_unless false xs h = h

module _ {X Y : Type 0} (R : X → X → Type 0) (S : Y → Y → Type 0) (f : X → Y) (carries : (a b : X) → R a b → S (f a) (f b)) where
  pub pairs_mapped : (xs : List X) → AllPairs R xs → AllPairs S (map f xs)
  pairs_mapped [] h = no_pairs S
  pairs_mapped (x ∷ xs) h =
      pair_more S (f x) (map f xs)
      (λ y c. (let m = of_map f xs y c in rw m.gives at (carries x m.source (first_earlier R x xs m.source h m.among))))
      (pairs_mapped xs (rest_in_order R x xs h))

-- what numbers give, by a key that tells which number gave it
module _ {X : Type 0} (f : ℕ → List X) (key : X → ℕ) (tells : (k : ℕ) (x : X) → Contains (f k) x → key x ≡ k)
    (each : (k : ℕ) → AllPairs (λ x y. x ≢ y) (f k)) where
  least_of : (a n x : ℕ) → Contains (range_with_len a n) x → a ≤ x
  least_of a zero x h = absurd (in_none x h)
  least_of a (suc n) x h = elim (head_or_rest a (range_with_len (a + 1) n) x h) [
    | inl e ↦ omega arith
    | inr r ↦ let l = least_of (a + 1) n x r in omega arith
  ]

  pub pairs_of_range : (a n : ℕ) → AllPairs (λ x y. x ≢ y) (flat_map f (range_with_len a n))
  pairs_of_range a zero = no_pairs (λ x y. x ≢ y)
  pairs_of_range a (suc n) =
      pairs_joined (λ x y. x ≢ y) (f a) (flat_map f (range_with_len (a + 1) n)) (each a) (pairs_of_range (a + 1) n) (λ x y h k e. (
      let m = of_flat f (range_with_len (a + 1) n) y k in
      let l = least_of (a + 1) n m.source m.among in
      let one : key x ≡ a = tells a x h in
      let other : key y ≡ m.source = tells m.source y m.gives in
      let same : key x ≡ key y = ap key e in
      let f : ⊥ = omega arith in f))
