-- The lenders that join a leaf, by the states that a journal tells, are those of the journal.
use Rattle.std.proofs.Common.{◌≡◌, ℕ, zero, suc, ◌+◌, ◌<◌, ◌≤◌, pos, Bool, true, false, ◌&&◌, not, cond, List, [], ◌∷◌, ◌++◌, length, filter, fold, refl, ap, ◌∙◌, arith}
use Rattle.std.specs.Prelude.{int_le}
use Rattle.std.specs.Int.{is_negative}
use Rattle.std.specs.List.{AllByRecursion, range_with_len}
use Rattle.lemmas.proofs.Ranges.{any-same}
use Rattle.score.specs.Total.{total_of}
use Rattle.cluster_types.specs.declared.cluster.Cluster.{Cluster}
use Rattle.cluster_types.specs.declared.journal.Event.{Event}
use Rattle.cluster_types.specs.declared.journal.Promotion.{Promotion}
use Rattle.cluster_types.specs.NodeStates.{is_usable}
use Rattle.cluster_types.specs.Terms.{is_tied, has_node_left, lenders, own_terms, terms_of, with_lender}
use Rattle.cluster_types.specs.UnpackedStates.{states_of}
use Rattle.placement.specs.Inner.LendingRows.{leaves_a_node_by, with_lender_by}
use Rattle.placement.specs.Inner.OwnRows.{terms_by}
use Rattle.placement.specs.UsableNodes.{is_usable_by}
use Rattle.placement.proofs.OwnOfStates.{from-zero, own-is, usable-is}

-- all numbers of a list are below a bound
abbrev pub AllBelow : ℕ → List ℕ → Type 0
AllBelow bound xs = AllByRecursion (λ x. x < bound) xs

one-more : (bound : ℕ) (xs : List ℕ) (x : ℕ) → AllBelow bound xs → x < bound → AllBelow bound (xs ++ x ∷ [])
one-more bound [] x all low = (low, tt)
one-more bound (y ∷ ys) x all low = (all.0, one-more bound ys x all.1 low)

filtered : (p : ℕ → Bool) (bound from n : ℕ) → from + n ≤ bound → AllBelow bound (filter p (range_with_len from n))
filtered p bound from zero le = tt
filtered p bound from (suc n) le = go (p from) (filtered p bound (from + 1) n (omega (arith, le)))
  where
    go : (b : Bool) → AllBelow bound (filter p (range_with_len (from + 1) n)) → AllBelow bound (cond b (from ∷ filter p (range_with_len (from + 1) n)) (filter p (range_with_len (from + 1) n)))
    go true rest = (omega (arith, le), rest)
    go false rest = rest

module _ (c : Cluster) (es : List Event) (ps : List Promotion) where
  pub terms-is : (leaves : List ℕ) → AllBelow (length c.leaves) leaves → (n : ℕ) → n < length c.nodes → terms_by c (states_of c es ps) leaves n ≡ terms_of c es leaves n
  terms-is [] all n low = refl
  terms-is (r ∷ rest) all n low =
      ap (λ ts. ts ++ terms_by c (states_of c es ps) rest n) (own-is c es ps r n all.0 low) ∙ ap (λ ts. own_terms c es r n ++ ts) (terms-is rest all.1 n low)

  leaves-is : (leaves : List ℕ) → AllBelow (length c.leaves) leaves → leaves_a_node_by c (states_of c es ps) leaves ≡ has_node_left c es leaves
  leaves-is leaves all =
      any-same (λ n. is_usable_by c (states_of c es ps) n && not (is_negative (total_of (terms_by c (states_of c es ps) leaves n))))
      (λ n. is_usable c n es && int_le (pos 0) (total_of (terms_of c es leaves n))) (length c.nodes)
      (λ n low. ap (λ b. b && not (is_negative (total_of (terms_by c (states_of c es ps) leaves n)))) (usable-is c es ps n low)
      ∙ (ap (λ ts. is_usable c n es && not (is_negative (total_of ts))) (terms-is leaves all n low)
      ∙ ap (λ b. is_usable c n es && b) (from-zero (total_of (terms_of c es leaves n)))))

  -- one lender after another joins by the states where it joins by the journal
  pub record Joins (joined ss : List ℕ) : Type 0 where
    pub same : fold (with_lender_by c (states_of c es ps)) joined ss ≡ fold (with_lender c es) joined ss
    pub below : AllBelow (length c.leaves) (fold (with_lender c es) joined ss)

  joins : (joined ss : List ℕ) → AllBelow (length c.leaves) joined → AllBelow (length c.leaves) ss → Joins joined ss
  joins joined [] all more = record { same = refl; below = all }
  joins joined (s ∷ ss) all more =
      let wide = one-more (length c.leaves) joined s all more.0 in
      go (has_node_left c es (joined ++ s ∷ [])) refl (leaves-is (joined ++ s ∷ []) wide) (joins (joined ++ s ∷ []) ss wide more.1) (joins joined ss all more.1)
    where
      go : (b : Bool) → has_node_left c es (joined ++ s ∷ []) ≡ b → leaves_a_node_by c (states_of c es ps) (joined ++ s ∷ []) ≡ has_node_left c es (joined ++ s ∷ [])
          → Joins (joined ++ s ∷ []) ss → Joins joined ss → Joins joined (s ∷ ss)
      go true e is with_it without = let by = is ∙ e in record { same = rw (by, e) with_it.same; below = rw e with_it.below }
      go false e is with_it without = let by = is ∙ e in record { same = rw (by, e) without.same; below = rw e without.below }

  pub all-joins : (r : ℕ) → r < length c.leaves → Joins (r ∷ []) (lenders c r)
  all-joins r low = joins (r ∷ []) (lenders c r) (low, tt) (filtered (λ s. is_tied c s r) (length c.leaves) 0 (length c.leaves) (omega arith))
