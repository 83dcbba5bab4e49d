-- Marks of the leaves that must be with a leaf, tie by tie.
use Rattle.std.proofs.Common.{◌≡◌, ◌≢◌, ◌⊎◌, inl, inr, ℕ, zero, suc, ◌+◌, ◌<◌, ◌≤◌, ◌==◌, Bool, true, false, not, cond, ◌&&◌, ◌||◌, List, [], ◌∷◌, length, filter, get_or, set, refl, sym, ap, subst, eqb-true, ◌∙◌, arith, Contains}
use Rattle.std.proofs.lemmas.Bool.{eq-eqb, not-true, or_left, or_right}
use Rattle.std.proofs.lemmas.List.{length-set, get_or-set_other, get_or_default, ext_get_or}
use Rattle.std.proofs.lemmas.List.FromFn.{get_or-map-range_with_len, length-map-range_with_len}
use Rattle.lemmas.proofs.Booleans.{sooner, later, either, same_test}
use Rattle.lemmas.proofs.Counts.{count-is, count-cons}
use Rattle.lemmas.proofs.Members.{in_map, of_map, of_filter}
use Rattle.listed.specs.Flags.{is_marked}
use Rattle.edges.specs.declared.edge.Edge.{Edge}
use Rattle.edges.specs.Chains.{link_then, linked, one_link}
use Rattle.cluster_types.specs.declared.cluster.Cluster.{Cluster}
use Rattle.cluster_types.specs.Terms.{IsTieLink, IsTied, is_tie, is_tied}
use Rattle.loops.specs.FirstLoops.{AllJoin}
use Rattle.loops.proofs.ComputedChains.{ties_computed}
use Rattle.placement.specs.Ties.{AreTies, tie_of, tied_leaves}
use Rattle.placement.specs.Inner.Ties.{AreTied, lacks_mark, unmarked, with_mark_if, leads, is_missed}

-- one leaf less has no mark
fewer-unmarked : (marks : List Bool) (s : ℕ) → get_or marks s true ≡ false → unmarked (set marks s true) + 1 ≡ unmarked marks
fewer-unmarked [] s h = cc
fewer-unmarked (m ∷ marks) zero h =
    let a = count-is not true marks false refl in
    let b = count-is not m marks true (ap not h) in
    omega (arith, a, b)
fewer-unmarked (m ∷ marks) (suc k) h =
    let a = count-cons not m (set marks k true) in
    let b = count-cons not m marks in
    let rest = fewer-unmarked marks k h in
    omega (arith, a, b, rest)

-- what one step of a pass leaves
pub fewer-or : (start old now : ℕ) (changed missed : Bool) → now + cond missed 1 0 ≡ old → old + cond changed 1 0 ≤ start
    → now + cond (changed || missed) 1 0 ≤ start
fewer-or start old now true true h low = omega (arith, h, low)
fewer-or start old now true false h low = omega (arith, h, low)
fewer-or start old now false true h low = omega (arith, h, low)
fewer-or start old now false false h low = omega (arith, h, low)

-- one tie is followed
module _ (r : ℕ) (marks : List Bool) (tie : Edge) where
  unset : is_missed r marks tie ≡ true → get_or marks tie.after true ≡ false
  unset h = not-true (get_or marks tie.after true) (sooner (lacks_mark marks tie.after) (leads r marks tie) h)

  pub fewer-if : (missed : Bool) → is_missed r marks tie ≡ missed → unmarked (with_mark_if marks tie.after missed) + cond missed 1 0 ≡ unmarked marks
  fewer-if true h = fewer-unmarked marks tie.after (unset h)
  fewer-if false h = omega arith

  module _ (c : Cluster) (ties : List Edge) (exact : AreTies c ties) (among : Contains ties tie) (known : AreTied c r marks) where
    -- the chain to its dependent is that to its primary, with the tie before it
    joined : leads r marks tie ≡ true → IsTied c tie.after r
    joined h =
        let m = of_map tie_of (filter (is_tie c) c.colocations) tie ((exact.exact tie).0 among) in
        let link : IsTieLink c tie.after tie.before = subst (λ (t : Edge). IsTieLink c t.after t.before) m.gives (linked m.source m.among) in
        either (tie.before == r) (is_marked marks tie.before) h
        (λ same. one_link tie.after r (subst (IsTieLink c tie.after) (eqb-true tie.before r same) link))
        (λ on. link_then tie.after tie.before r link tt (known.tied tie.before on))

    marked : is_missed r marks tie ≡ true → AreTied c r (set marks tie.after true)
    marked h = record { size = length-set marks tie.after true ∙ known.size; tied = λ s. by s (cases s) }
      where
        cases : (s : ℕ) → (s ≡ tie.after) ⊎ (s ≢ tie.after)
        cases s = grind arith

        by : (s : ℕ) → (s ≡ tie.after) ⊎ (s ≢ tie.after) → get_or (set marks tie.after true) s false ≡ true → IsTied c s r
        by s (inl e) g = rw e (joined (later (lacks_mark marks tie.after) (leads r marks tie) h))
        by s (inr e) g = known.tied s (sym (get_or-set_other marks tie.after s true false e) ∙ g)

    pub tied-if : (missed : Bool) → is_missed r marks tie ≡ missed → AreTied c r (with_mark_if marks tie.after missed)
    tied-if true h = marked h
    tied-if false h = known

-- where no tie is missed, all are marked
module _ (c : Cluster) (joined : AllJoin c) (ties : List Edge) (exact : AreTies c ties) (r : ℕ) (marks : List Bool) (known : AreTied c r marks)
    (none : (tie : Edge) → Contains ties tie → is_missed r marks tie ≡ false) where
  set-already : (b d : Bool) → not b && d ≡ false → d ≡ true → b ≡ true
  set-already true d h e = refl
  set-already false d h e = cc

  -- what a tie puts with r, or with a leaf that has a mark, has a mark
  follows : (s p : ℕ) → IsTieLink c s p → p == r || is_marked marks p ≡ true → is_marked marks s ≡ true
  follows _ _ (linked col kept) leading =
      let listed = (exact.exact (tie_of col)).1 (in_map tie_of (filter (is_tie c) c.colocations) col kept) in
      let low = joined col (of_filter (is_tie c) c.colocations col kept).among in
      get_or_default marks col.dependent false true (omega (arith, low.dependent, known.size))
      ∙ set-already (get_or marks col.dependent true) (leads r marks (tie_of col)) (none (tie_of col) listed) leading

  all-marked : (s q : ℕ) → IsTied c s q → q ≡ r → is_marked marks s ≡ true
  all-marked s q (one_link _ _ l) end = follows s q l (or_left (q == r) _ (eq-eqb q r end))
  all-marked s q (link_then _ p _ l _ rest) end = follows s p l (or_right (p == r) _ (all-marked p q rest end))

  pub all-tied : marks ≡ tied_leaves c r
  all-tied =
      ext_get_or false marks _ (known.size ∙ sym (length-map-range_with_len (λ s. is_tied c s r) 0 (length c.leaves)))
      (λ n within. let low : n < length c.leaves = omega (arith, within, known.size) in
      same_test (is_marked marks n) (is_tied c n r)
      (λ h. (ties_computed c joined n r).0 (known.tied n h))
      (λ h. all-marked n r ((ties_computed c joined n r).1 h) refl)
      ∙ sym (get_or-map-range_with_len (λ s. is_tied c s r) 0 (length c.leaves) n n false low (omega arith)))
