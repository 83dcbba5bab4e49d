-- The leaves whose own terms count for a leaf, with one more leaf tried.
use Rattle.std.proofs.Common.{◌≡◌, ℕ, ◌+◌, ◌≤◌, Bool, true, false, if◌then◌else◌, List, [], ◌∷◌, ◌++◌, length, filter, fold, sum_by, zero, suc, refl, sym, ap, subst, ◌∙◌, append-nil, arith}
use Rattle.std.specs.List.{range_with_len}
use Rattle.std.proofs.lemmas.Grind.{flat_map-append}
use Rattle.std.proofs.lemmas.List.Sums.{fold-append}
use Rattle.lemmas.proofs.Ranges.{filter-more}
use Rattle.cluster_types.specs.declared.cluster.Cluster.{Cluster}
use Rattle.cluster_types.specs.declared.states.States.{States}
use Rattle.cluster_types.specs.Terms.{is_tied}
use Rattle.placement.specs.Inner.LendingRows.{leaves_a_node_by, with_lender_by, joined_below}
use Rattle.placement.specs.OwnRows.{own_by}
use Rattle.placement.specs.Inner.OwnRows.{terms_by, own_size, size_below}
use Rattle.cluster_types.specs.Valid.{KeepsLimits}
use Rattle.placement.specs.Rows.{few}
use Rattle.placement.proofs.OwnTerms.{small-own}
use Rattle.placement.proofs.Sizes.{size-more, size-joined, size-limit, few-terms}

-- the terms of one leaf more
pub terms-more : (c : Cluster) (states : States) (leaves : List ℕ) (s n : ℕ) → terms_by c states (leaves ++ s ∷ []) n ≡ terms_by c states leaves n ++ own_by c states s n
terms-more c states leaves s n =
    flat_map-append (λ r. own_by c states r n) leaves (s ∷ []) ∙ ap (λ ts. terms_by c states leaves n ++ ts) (append-nil (own_by c states s n))

module _ (c : Cluster) (states : States) (r s : ℕ) where
  -- one that is tied to the leaf is tried
  pub lend-more : is_tied c s r ≡ true
      → joined_below c states r (s + 1) ≡ with_lender_by c states (joined_below c states r s) s
  lend-more tied =
      ap (fold (with_lender_by c states) (r ∷ [])) (filter-more (λ t. is_tied c t r) s true tied)
      ∙ fold-append (with_lender_by c states) (r ∷ []) (filter (λ t. is_tied c t r) (range_with_len 0 s)) (s ∷ [])

  -- another isn't
  pub lend-skip : is_tied c s r ≡ false → joined_below c states r (s + 1) ≡ joined_below c states r s
  lend-skip tied =
      ap (fold (with_lender_by c states) (r ∷ [])) (filter-more (λ t. is_tied c t r) s false tied
      ∙ append-nil (filter (λ t. is_tied c t r) (range_with_len 0 s)))

  kept : (joined : List ℕ) (b : Bool) → sum_by (own_size c) joined ≤ own_size c r + size_below c s
      → sum_by (own_size c) (if b then joined ++ s ∷ [] else joined) ≤ own_size c r + size_below c (s + 1)
  kept joined true h = size-joined c joined r s h
  kept joined false h = let more = size-more c s in omega (arith, h, more)

  -- the finite terms stay few, whether one joins or not
  pub size-tried : (joined : List ℕ) → sum_by (own_size c) joined ≤ own_size c r + size_below c s
      → sum_by (own_size c) (with_lender_by c states joined s) ≤ own_size c r + size_below c (s + 1)
  size-tried joined h = kept joined (leaves_a_node_by c states (joined ++ s ∷ [])) h

module _ (c : Cluster) (states : States) (r : ℕ) where
  size-step : (s : ℕ) (b : Bool) → is_tied c s r ≡ b → sum_by (own_size c) (joined_below c states r s) ≤ own_size c r + size_below c s
      → sum_by (own_size c) (joined_below c states r (s + 1)) ≤ own_size c r + size_below c (s + 1)
  size-step s true e h =
      subst (λ js. sum_by (own_size c) js ≤ own_size c r + size_below c (s + 1)) (sym (lend-more c states r s e))
      (size-tried c states r s (joined_below c states r s) h)
  size-step s false e h =
      let more = size-more c s in
      subst (λ js. sum_by (own_size c) js ≤ own_size c r + size_below c (s + 1)) (sym (lend-skip c states r s e)) (omega (arith, h, more))

  -- the finite terms of those that joined are few
  pub size-below : (s : ℕ) → sum_by (own_size c) (joined_below c states r s) ≤ own_size c r + size_below c s
  size-below zero = omega arith
  size-below (suc s) =
      subst (λ k. sum_by (own_size c) (joined_below c states r k) ≤ own_size c r + size_below c k) (let e : s + 1 ≡ suc s = omega arith in e)
      (size-step s (is_tied c s r) refl (size-below s))

  pub few-joined : KeepsLimits c → (s : ℕ) → s ≤ length c.leaves → (n : ℕ) → few (terms_by c states (joined_below c states r s) n) ≤ 6000
  few-joined limits s low n =
      let a = few-terms c states (joined_below c states r s) n in
      let b = size-below s in
      let d = small-own c r limits in
      let e = size-limit c s in
      omega (arith, a, b, d, e, low, limits.leaves, limits.rules)
