-- What holds of each element of lists that are made of others.
use Rattle.std.proofs.Common.{arith, ◌≡◌, ◌<◌, ℕ, zero, suc, List, [], ◌∷◌, length, map, slice_index_or, refl, subst, inl, inr, ◌⊎◌, AllPairs, Contains}
use Rattle.std.specs.List.{AllByRecursion, flat_map}
use Rattle.std.proofs.lemmas.List.{length-map}
use Rattle.lemmas.proofs.Members.{all_append, head_or_rest, in_none}

module _ {X : Type 0} (P : X → Type 0) where
  -- what holds of each holds of one that stands in the list
  pub of_all : (xs : List X) (x : X) → AllByRecursion P xs → Contains xs x → P x
  of_all [] x h k = absurd (in_none x k)
  of_all (y ∷ xs) x h k = on (head_or_rest y xs x k) (of_all xs x h.1) where
    on : (y ≡ x) ⊎ Contains xs x → (Contains xs x → P x) → P x
    on (inl e) next = subst P e h.0
    on (inr r) next = next r

module _ {X Y : Type 0} (P : Y → Type 0) where
  pub all_map : (f : X → Y) (xs : List X) → ((x : X) → P (f x)) → AllByRecursion P (map f xs)
  all_map f [] h = tt
  all_map f (x ∷ xs) h = (h x, all_map f xs h)

  -- what holds of all that each gives holds of all that they give
  pub all_flat : (Q : X → Type 0) (f : X → List Y) (xs : List X) → ((x : X) → Q x → AllByRecursion P (f x)) → AllByRecursion Q xs
      → AllByRecursion P (flat_map f xs)
  all_flat Q f [] h k = tt
  all_flat Q f (x ∷ xs) h k = all_append P (f x) (flat_map f xs) (h x k.0) (all_flat Q f xs h k.1)

  pub of_map_all : (f : X → Y) (xs : List X) → AllByRecursion P (map f xs) → AllByRecursion (λ x. P (f x)) xs
  of_map_all f [] h = tt
  of_map_all f (x ∷ xs) h = (h.0, of_map_all f xs h.1)

module _ {X Y : Type 0} (f : X → Y) where
  at_map : (xs : List X) (k : ℕ) (d : X) → slice_index_or (map f xs) k (f d) ≡ f (slice_index_or xs k d)
  at_map [] zero d = refl
  at_map [] (suc k) d = refl
  at_map (x ∷ xs) zero d = refl
  at_map (x ∷ xs) (suc k) d = at_map xs k d

  -- what holds of each two that elements give
  pub pairs_map : (R : Y → Y → Type 0) (xs : List X) → AllPairs R (map f xs) → AllPairs (λ one other. R (f one) (f other)) xs
  pairs_map R xs h i j d lt within =
      let same = length-map xs f in
      let there : j < length (map f xs) = omega (arith, within, same) in
      subst (λ a. R a (f (slice_index_or xs j d))) (at_map xs i d)
      (subst (λ b. R (slice_index_or (map f xs) i (f d)) b) (at_map xs j d) (h i j (f d) lt there))
