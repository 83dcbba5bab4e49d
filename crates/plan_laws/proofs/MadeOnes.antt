-- Which decisions there are, and which of them were made.
use Rattle.std.proofs.Common.{arith, ◌≡◌, ◌≢◌, ◌<◌, ℕ, Bool, true, false, if◌then◌else◌, List, [], ◌∷◌, ◌++◌, ◌⊎◌, inl, inr, refl, sym, ◌∙◌, length, Contains, Any}
use Rattle.std.proofs.lemmas.Bool.{or_left, false_from_ne_true, or_cases}
use Rattle.std.specs.List.{range_with_len}
use Rattle.std.proofs.lemmas.List.Folds.{Any-from_list_any, list_any-append}
use Rattle.lemmas.proofs.Searches.{any-more, any_last, passes_by}
use Rattle.lemmas.proofs.Members.{Flat, at_head, head_or_rest, in_flat, in_none, in_range, in_rest, of_flat, of_range}
use Rattle.loops.proofs.Needs.{is_itself, same_decision}
use Rattle.cluster_types.specs.declared.cluster.Cluster.{Cluster}
use Rattle.cluster_types.specs.declared.journal.Event.{Event}
use Rattle.cluster_types.specs.declared.placement.Decision.{Decision}
use Rattle.cluster_types.specs.declared.placement.Decision.TheVariants.{Place, Promote}
use Rattle.cluster_types.specs.Decisions.{decisions, decisions_of, is_among, is_decision, is_place, is_same_decision, leaf_of}
use Rattle.cluster_types.specs.Fields.{is_promotable}
use Rattle.cluster_types.specs.Pins.{is_pinned}

-- what is among some decisions stands in their list
pub stands_among : (ds : List Decision) (d : Decision) → is_among ds d ≡ true → Contains ds d
stands_among ds d h = at (Any-from_list_any (is_same_decision d) ds h)
  where
    at : Any (λ x. is_same_decision d x ≡ true) ds → Contains ds d
    at (k, x, lt, there, same) = let e : d ≡ x = same_decision d x same in rw e (k, lt, there)

pub never_both : (b : Bool) → b ≡ true → b ≡ false → ⊥
never_both true h g = cc
never_both false h g = cc

-- one more is made
module _ (made : List Decision) (d e : Decision) where
  pub still_made : is_among made d ≡ true → is_among (made ++ e ∷ []) d ≡ true
  still_made h = list_any-append (is_same_decision d) made (e ∷ []) ∙ or_left (is_among made d) _ h

  pub now_made : d ≡ e → is_among (made ++ e ∷ []) d ≡ true
  now_made same = any_last (is_same_decision d) made e (rw same (is_itself e))

  pub made_then : is_among (made ++ e ∷ []) d ≡ true → (is_among made d ≡ true) ⊎ (d ≡ e)
  made_then h =
      elim (or_cases (is_among made d) (is_same_decision d e) (sym (any-more (is_same_decision d) made e) ∙ h)) [
        | inl before ↦ inl before
        | inr same ↦ inr (same_decision d e same)
      ]

  pub unmade_still : is_among made d ≡ false → d ≢ e → is_among (made ++ e ∷ []) d ≡ false
  unmade_still h other = false_from_ne_true (is_among (made ++ e ∷ []) d) (λ t. elim (made_then t) [
    | inl before ↦ never_both (is_among made d) before h
    | inr same ↦ absurd (other same)
  ])

  pub unmade_before : is_among (made ++ e ∷ []) d ≡ false → is_among made d ≡ false
  unmade_before h = false_from_ne_true (is_among made d) (λ t. never_both (is_among (made ++ e ∷ []) d) (still_made t) h)

module _ (c : Cluster) (es : List Event) where
  -- what is known of a decision that there is
  pub record Known (d : Decision) : Type 0 where
    pub within : leaf_of d < length c.leaves
    pub free : is_pinned c es (leaf_of d) ≡ false
    pub promotable : is_place d ≡ false → is_promotable c (leaf_of d) ≡ true

  known_of : (r : ℕ) (d : Decision) → r < length c.leaves → (pinned promotable : Bool) → is_pinned c es r ≡ pinned → is_promotable c r ≡ promotable
      → Contains (if pinned then [] else Place r ∷ (if promotable then Promote r ∷ [] else [])) d → Known d
  known_of r d low true p e f h = absurd (in_none d h)
  known_of r d low false p e f h = elim (head_or_rest (Place r) _ d h) [
    | inl same ↦ rw (← same) (record { within = low; free = e; promotable = λ (g : true ≡ false). cc })
    | inr rest ↦ promoted p f rest
  ] where
    promoted : (p : Bool) → is_promotable c r ≡ p → Contains (if p then Promote r ∷ [] else []) d → Known d
    promoted true f h = elim (head_or_rest (Promote r) [] d h) [
      | inl same ↦ rw (← same) (record { within = low; free = e; promotable = λ g. f })
      | inr none ↦ absurd (in_none d none)
    ]
    promoted false f h = absurd (in_none d h)

  pub there : (d : Decision) → is_decision c es d ≡ true → Contains (decisions c es) d
  there d h = stands_among (decisions c es) d h

  pub known : (d : Decision) → is_decision c es d ≡ true → Known d
  known d h =
      let f : Flat (decisions_of c es) (range_with_len 0 (length c.leaves)) d = of_flat (decisions_of c es) (range_with_len 0 (length c.leaves)) d (there d h) in
      let lt = of_range 0 (length c.leaves) f.source f.among in
      known_of f.source d (omega arith) (is_pinned c es f.source) (is_promotable c f.source) refl refl f.gives

  -- a leaf that isn't pinned is placed, and promoted if it is promotable

  in_place : (r : ℕ) (pinned : Bool) (rest : List Decision) → pinned ≡ false → Contains (if pinned then [] else Place r ∷ rest) (Place r)
  in_place r true rest h = cc
  in_place r false rest h = at_head (Place r) rest (Place r) refl

  in_promote : (r : ℕ) (pinned promotable : Bool) → pinned ≡ false → promotable ≡ true
      → Contains (if pinned then [] else Place r ∷ (if promotable then Promote r ∷ [] else [])) (Promote r)
  in_promote r true p h g = cc
  in_promote r false true h g = in_rest (Place r) (Promote r ∷ []) (Promote r) (at_head (Promote r) [] (Promote r) refl)
  in_promote r false false h g = cc

  is_there : (d : Decision) (r : ℕ) → r < length c.leaves → Contains (decisions_of c es r) d → is_decision c es d ≡ true
  is_there d r lt h =
      passes_by (is_same_decision d) (decisions c es) d
      (in_flat (decisions_of c es) (range_with_len 0 (length c.leaves)) r d (in_range 0 (length c.leaves) r (omega arith) (omega arith)) h) (is_itself d)

  pub is_placed : (r : ℕ) → r < length c.leaves → is_pinned c es r ≡ false → is_decision c es (Place r) ≡ true
  is_placed r lt free = is_there (Place r) r lt (in_place r (is_pinned c es r) _ free)

  pub is_promoted : (r : ℕ) → r < length c.leaves → is_pinned c es r ≡ false → is_promotable c r ≡ true → is_decision c es (Promote r) ≡ true
  is_promoted r lt free can = is_there (Promote r) r lt (in_promote r (is_pinned c es r) (is_promotable c r) free can)
