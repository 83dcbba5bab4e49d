-- The rows of own terms, with one row more.
use Rattle.std.proofs.Common.{◌≡◌, inl, inr, ℕ, ◌-◌, ◌<◌, List, [], ◌∷◌, ◌++◌, Some, length, get_or, slice_get, refl, sym, ap, subst, ◌∙◌, arith}
use Rattle.std.proofs.lemmas.Bool.{cases_lt}
use Rattle.std.proofs.lemmas.List.{get_or-append_right, get_or_append_left, length-append}
use Rattle.std.proofs.lemmas.Option.{get_or_from_slice_get, slice_get-get_or, slice_get_within}
use Rattle.score.specs.Row.{Tally}
use Rattle.cluster_types.specs.declared.cluster.Cluster.{Cluster}
use Rattle.cluster_types.specs.declared.states.States.{States}
use Rattle.placement.specs.OwnRows.{own_by}
use Rattle.placement.specs.Rows.{IsRow}

module _ {X : Type 0} (P : ℕ → X → Type 0) where
  -- what holds of each element by its place holds with one element more
  pub places-more : (xs : List X) (x : X) → ((k : ℕ) (y : X) → slice_get xs k ≡ Some y → P k y) → P (length xs) x
      → (k : ℕ) (y : X) → slice_get (xs ++ x ∷ []) k ≡ Some y → P k y
  places-more xs x old new k y at = elim (cases_lt k (length xs)) [
    | inl low ↦ old k y (slice_get-get_or xs k y low ∙ ap Some (sym (get_or_append_left xs (x ∷ []) y k low) ∙ there))
    | inr high ↦ last (let e : k ≡ length xs = omega (arith, high, within, length-append xs (x ∷ [])) in e)
  ]
    where
      within : k < length (xs ++ x ∷ [])
      within = slice_get_within (xs ++ x ∷ []) k y at

      there : get_or (xs ++ x ∷ []) k y ≡ y
      there = get_or_from_slice_get (xs ++ x ∷ []) k y y at

      last : k ≡ length xs → P k y
      last e =
          let first : k - length xs ≡ 0 = omega (arith, e) in
          let is : x ≡ y = sym (get_or-append_right xs (x ∷ []) (length xs) k y refl (omega (arith, e)) ∙ ap (λ i. get_or (x ∷ []) i y) first) ∙ there in
          subst (P k) is (subst (λ m. P m x) (sym e) new)

module _ (c : Cluster) (states : States) where
  pub each-more : (rows all : List (List Tally)) (row : List Tally) (r : ℕ) → length rows ≡ r → all ≡ rows ++ row ∷ []
      → ((k : ℕ) (one : List Tally) → slice_get rows k ≡ Some one → IsRow (length c.nodes) (own_by c states k) one)
      → IsRow (length c.nodes) (own_by c states r) row
      → (k : ℕ) (one : List Tally) → slice_get all k ≡ Some one → IsRow (length c.nodes) (own_by c states k) one
  each-more rows all row r size is old new k one at =
      places-more (λ k one. IsRow (length c.nodes) (own_by c states k) one) rows row old
      (subst (λ (m : ℕ). IsRow (length c.nodes) (own_by c states m) row) (sym size) new) k one
      (subst (λ xs. slice_get xs k ≡ Some one) is at)
