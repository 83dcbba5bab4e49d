-- The rank of a step is the length of the longest chain of links that ends at it, and no other number is.
use Rattle.std.proofs.Common.{arith, ◌≡◌, ◌≤◌, ◌<◌, ◌*◌, ◌&&◌, ◌⊎◌, inl, inr, nat_lt, ℕ, suc, zero, Bool, true, List, [], ◌∷◌, length, count_by, filter, fold, max, refl, sym, ◌∙◌, subst, Contains, Any}
use Rattle.std.specs.Prelude.{◌↔◌}
use Rattle.std.specs.List.{range_with_len}
use Rattle.std.proofs.lemmas.Bool.{and_from, cases_lt, lt-ltb}
use Rattle.std.proofs.lemmas.Bool.Decides.{nat_tests}
use Rattle.std.proofs.lemmas.List.Folds.{Any-from_list_any}
use Rattle.std.proofs.lemmas.List.FromFn.{length-range_with_len}
use Rattle.std.proofs.lemmas.List.Sums.{count_by-le-length}
use Rattle.lemmas.proofs.Booleans.{later, sooner}
use Rattle.lemmas.proofs.Counts.{count_one_more}
use Rattle.lemmas.proofs.Members.{at_head, head_or_rest, in_filter, in_none, in_range, in_rest, of_filter, of_range}
use Rattle.lemmas.proofs.Searches.{passes_by}
use Rattle.edges.specs.Chains.{ChainEnds, linked, no_link, then_link}
use Rattle.cluster_types.specs.declared.cluster.Cluster.{Cluster}
use Rattle.cluster_types.specs.Numbers.{StepsHaveNoLoop, IsRank, IsStepLink, Link, LeafStep, ends_chain, is_same_step, links, rank}
use Rattle.loops.specs.FirstLoops.{AllOrder}
use Rattle.loops.proofs.LinkLoops.{link_rises, links_stand, rising_steps}
use Rattle.loops.proofs.StepPlaces.{position_is, position_within, same_step, spot, step_itself}

-- the greatest of some numbers is one of them, or the one that they are compared with first

one_of_both : (a b : ℕ) → (max a b ≡ a) ⊎ (max a b ≡ b)
one_of_both a b = elim (cases_lt a b) [
  | inl lt ↦ inr (omega arith)
  | inr ge ↦ inl (omega arith)
]

greatest_is : (a : ℕ) (xs : List ℕ) → (fold max a xs ≡ a) ⊎ Contains xs (fold max a xs)
greatest_is a [] = inl refl
greatest_is a (x ∷ xs) = elim (greatest_is (max a x) xs) [
  | inl e ↦ elim (one_of_both a x) [
    | inl first ↦ inl (e ∙ first)
    | inr other ↦ inr (at_head x xs (fold max (max a x) xs) (sym (e ∙ other)))
  ]
  | inr h ↦ inr (in_rest x xs (fold max (max a x) xs) h)
]

none_greater : (a k : ℕ) (xs : List ℕ) → (k ≤ a) ⊎ Contains xs k → k ≤ fold max a xs
none_greater a k [] (inl le) = le
none_greater a k [] (inr h) = absurd (in_none k h)
none_greater a k (x ∷ xs) (inl le) = none_greater (max a x) k xs (inl (omega arith))
none_greater a k (x ∷ xs) (inr h) = elim (head_or_rest x xs k h) [
  | inl e ↦ none_greater (max a x) k xs (inl (omega arith))
  | inr r ↦ none_greater (max a x) k xs (inr r)
]

module _ (c : Cluster) where
  chain_of_test : (count : ℕ) (s : LeafStep) → ends_chain c count s ≡ true → ChainEnds (IsStepLink c) count s
  chain_of_test zero s h = no_link s
  chain_of_test (suc count) s h =
      on (Any-from_list_any (λ (l : Link). is_same_step l.after s && ends_chain c count l.before) (links c) h) (chain_of_test count)
    where
      on : Any (λ (l : Link). is_same_step l.after s && ends_chain c count l.before ≡ true) (links c)
          → ((t : LeafStep) → ends_chain c count t ≡ true → ChainEnds (IsStepLink c) count t) → ChainEnds (IsStepLink c) (suc count) s
      on (k, l, lt, at, g) next =
          let same : l.after ≡ s = same_step l.after s (sooner (is_same_step l.after s) (ends_chain c count l.before) g) in
          let one : IsStepLink c l.before l.after = linked l (k, lt, at) in
          then_link count l.before s (next l.before (later (is_same_step l.after s) (ends_chain c count l.before) g)) (rw same at one)

  test_of_chain : (count : ℕ) (s : LeafStep) → ChainEnds (IsStepLink c) count s → ends_chain c count s ≡ true
  test_of_chain _ _ (no_link s) = refl
  test_of_chain _ _ (then_link n _ _ before (linked l h)) =
      passes_by (λ (k : Link). is_same_step k.after l.after && ends_chain c n k.before) (links c) l h
      (and_from (is_same_step l.after l.after) _ (step_itself l.after) (test_of_chain n l.before before))

  abbrev lengths : LeafStep → List ℕ
  lengths s = filter (λ count. ends_chain c count s) (range_with_len 0 (4 * length c.leaves))

  pub rank_bounded : (s : LeafStep) → rank c s ≤ 4 * length c.leaves
  rank_bounded s = elim (greatest_is 0 (lengths s)) [
    | inl e ↦ omega arith
    | inr h ↦
        let k = of_filter (λ count. ends_chain c count s) (range_with_len 0 (4 * length c.leaves)) (rank c s) h in
        let lt = of_range 0 (4 * length c.leaves) (rank c s) k.among in
        omega arith
  ]

  -- a chain of as many links as the rank ends at the step
  pub chain_of_rank : (s : LeafStep) → ChainEnds (IsStepLink c) (rank c s) s
  chain_of_rank s = elim (greatest_is 0 (lengths s)) [
    | inl e ↦ subst (λ (k : ℕ). ChainEnds (IsStepLink c) k s) (sym e) (no_link s)
    | inr h ↦
        chain_of_test (rank c s) s (of_filter (λ count. ends_chain c count s) (range_with_len 0 (4 * length c.leaves)) (rank c s) h).passes
  ]

-- Without a loop each step of a chain is above those before it, so a chain has fewer links than there are positions.
module _ (c : Cluster) (ordered : AllOrder c) (free : StepsHaveNoLoop c) where
  abbrev height : LeafStep → ℕ
  height s = (rising_steps c ordered free).height (spot (length c.leaves) s)

  abbrev is_below : LeafStep → ℕ → Bool
  is_below s x = nat_lt ((rising_steps c ordered free).height x) (height s)

  abbrev positions : List ℕ
  positions = range_with_len 0 (4 * length c.leaves)

  first_there : (l : Link) → Contains (links c) l → Contains positions (spot (length c.leaves) l.before)
  first_there l h =
      let b = (links_stand c ordered l h).first in
      let lt = position_within (length c.leaves) l.before b in
      let at = position_is (length c.leaves) l.before b in
      in_range 0 (4 * length c.leaves) (spot (length c.leaves) l.before) (omega arith) (omega arith)

  later_there : (l : Link) → Contains (links c) l → Contains positions (spot (length c.leaves) l.after)
  later_there l h =
      let b = (links_stand c ordered l h).later in
      let lt = position_within (length c.leaves) l.after b in
      let at = position_is (length c.leaves) l.after b in
      in_range 0 (4 * length c.leaves) (spot (length c.leaves) l.after) (omega arith) (omega arith)

  more_below : (l : Link) → Contains (links c) l → count_by (is_below l.before) positions < count_by (is_below l.after) positions
  more_below l h =
      let up : height l.before < height l.after = link_rises c ordered (rising_steps c ordered free) l.before l.after (linked l h) in
      let (k, lt, at) = first_there l h in
      count_one_more (is_below l.before) (is_below l.after) (λ x p. grind (arith, nat_tests)) positions k (spot (length c.leaves) l.before) lt at
      (grind (arith, nat_tests)) (lt-ltb (height l.before) (height l.after) up)

  not_all_below : (l : Link) → Contains (links c) l → count_by (is_below l.after) positions < 4 * length c.leaves
  not_all_below l h =
      let (k, lt, at) = later_there l h in
      let less = count_one_more (is_below l.after) (λ x. true) (λ x p. refl) positions k (spot (length c.leaves) l.after) lt at
      (grind (arith, nat_tests)) refl in
      let few = count_by-le-length (λ x. true) positions in
      let size = length-range_with_len 0 (4 * length c.leaves) in
      omega arith

  as_many_below : (m : ℕ) (s : LeafStep) → ChainEnds (IsStepLink c) m s → m ≤ count_by (is_below s) positions
  as_many_below _ _ (no_link s) = omega arith
  as_many_below _ _ (then_link n _ _ before (linked l h)) =
      let so_far = as_many_below n l.before before in
      let more = more_below l h in
      omega arith

  chains_are_short : (m : ℕ) (s : LeafStep) → ChainEnds (IsStepLink c) m s → (m ≤ 0) ⊎ (m < 4 * length c.leaves)
  chains_are_short _ _ (no_link s) = inl (omega arith)
  chains_are_short _ _ (then_link n _ _ before (linked l h)) =
      let many = as_many_below (suc n) l.after (then_link n l.before l.after before (linked l h)) in
      let few = not_all_below l h in
      inr (omega arith)

  pub none_longer : (m : ℕ) (s : LeafStep) → ChainEnds (IsStepLink c) m s → m ≤ rank c s
  none_longer m s chain = none_greater 0 m (lengths c s) (elim (chains_are_short m s chain) [
    | inl none ↦ inl none
    | inr lt ↦
        inr (in_filter (λ count. ends_chain c count s) positions m (in_range 0 (4 * length c.leaves) m (omega arith) (omega arith))
        (test_of_chain c m s chain))
  ])

  is_rank : (s : LeafStep) → IsRank c s (rank c s)
  is_rank s = record { chain = chain_of_rank c s; longest = λ m h. none_longer m s h }

  one_rank : (s : LeafStep) (count : ℕ) → IsRank c s count → count ≡ rank c s
  one_rank s count is =
      let up : count ≤ rank c s = none_longer count s is.chain in
      let down : rank c s ≤ count = is.longest (rank c s) (chain_of_rank c s) in
      omega arith

  pub rank_computed : (s : LeafStep) (count : ℕ) → IsRank c s count ↔ (count ≡ rank c s)
  rank_computed s count = (one_rank s count, λ e. subst (λ (k : ℕ). IsRank c s k) (sym e) (is_rank s))

  pub rank_rises : (l : Link) → Contains (links c) l → rank c l.before < rank c l.after
  rank_rises l h =
      let longer = none_longer (suc (rank c l.before)) l.after (then_link (rank c l.before) l.before l.after (chain_of_rank c l.before) (linked l h)) in
      omega arith
