-- All decisions can be made: while one is ready, one is next, and each step leaves fewer that aren't made.
use Rattle.std.proofs.Common.{arith, ◌≡◌, ◌≢◌, ◌<◌, ◌≤◌, not, ℕ, suc, zero, Bool, true, false, List, [], ◌∷◌, ◌++◌, ◌⊎◌, inl, inr, refl, sym, ◌∙◌, count_by, Contains}
use Rattle.std.proofs.lemmas.Bool.{false_from_ne_true}
use Rattle.lemmas.proofs.Booleans.{contrary}
use Rattle.lemmas.proofs.Counts.{count_one_more}
use Rattle.lemmas.proofs.Members.{head_or_rest, in_none}
use Rattle.cluster_types.specs.declared.cluster.Cluster.{Cluster}
use Rattle.cluster_types.specs.declared.journal.Event.{Event}
use Rattle.cluster_types.specs.declared.journal.Promotion.{Promotion}
use Rattle.cluster_types.specs.declared.placement.Decision.{Decision}
use Rattle.cluster_types.specs.Decisions.{Decides, IsMadeNext, all_made, decisions, is_among, is_made_before, is_ready, one_more}
use Rattle.plan_laws.proofs.MadeBefore.{made_onward, made_some_way}
use Rattle.plan_laws.proofs.MadeOnes.{never_both, now_made, still_made, there}
use Rattle.plan_laws.proofs.OneOrder.{same_or_other}
use Rattle.plan_laws.proofs.Ready.{ready_is_new, ready_is_one}

module _ (c : Cluster) (es : List Event) (ps : List Promotion) where
  module _ (made : List Decision) where
    -- of some decisions none is ready, or one is and goes before each other that is
    pub data Best (xs : List Decision) : Type 0 where
      nothing : ((d : Decision) → Contains xs d → is_ready c es made d ≡ false) → Best xs
      found : (d : Decision) → is_ready c es made d ≡ true
          → ((e : Decision) → Contains xs e → is_ready c es made e ≡ true → e ≢ d → is_made_before c es ps d e ≡ true) → Best xs

    with_one : (x : Decision) (xs : List Decision) → (b : Bool) → is_ready c es made x ≡ b → Best xs → Best (x ∷ xs)
    with_one x xs false e (nothing none) = nothing (λ d h. elim (head_or_rest x xs d h) [
      | inl same ↦ rw (← same) e
      | inr rest ↦ none d rest
    ])
    with_one x xs true e (nothing none) = found x e (λ d h ready other. elim (head_or_rest x xs d h) [
      | inl same ↦ absurd (other (sym same))
      | inr rest ↦ absurd (never_both (is_ready c es made d) ready (none d rest))
    ])
    with_one x xs false e (found d ready first) = found d ready (λ y h also other. elim (head_or_rest x xs y h) [
      | inl same ↦ absurd (let f : is_ready c es made y ≡ false = rw (← same) e in never_both (is_ready c es made y) also f)
      | inr rest ↦ first y rest also other
    ])
    with_one x xs true e (found d ready first) = go (same_or_other x d) (is_made_before c es ps x d) refl
      where
        keep : (x ≢ d → is_made_before c es ps d x ≡ true) → Best (x ∷ xs)
        keep before = found d ready (λ y h also other. elim (head_or_rest x xs y h) [
          | inl same ↦ rw (← same) (before (λ s. other (sym same ∙ s)))
          | inr rest ↦ first y rest also other
        ])

        later : is_made_before c es ps x d ≡ true → (y : Decision) → Contains xs y → is_ready c es made y ≡ true → is_made_before c es ps x y ≡ true
        later before y rest also = elim (same_or_other y d) [
          | inl same ↦ rw same before
          | inr other ↦ made_onward c es ps x d y before (first y rest also other)
        ]

        take : is_made_before c es ps x d ≡ true → Best (x ∷ xs)
        take before = found x e (λ y h also other. elim (head_or_rest x xs y h) [
          | inl same ↦ absurd (other (sym same))
          | inr rest ↦ later before y rest also
        ])

        go : (x ≡ d) ⊎ (x ≢ d) → (b : Bool) → is_made_before c es ps x d ≡ b → Best (x ∷ xs)
        go (inl same) b f = keep (λ other. absurd (other same))
        go (inr other) true f = take f
        go (inr other) false f = keep (λ _. made_some_way c es ps x d other f)

    pub best : (xs : List Decision) → Best xs
    best [] = nothing (λ d h. absurd (in_none d h))
    best (x ∷ xs) = with_one x xs (is_ready c es made x) refl (best xs)

  abbrev unmade : List Decision → Decision → Bool
  unmade made d = not (is_among made d)

  abbrev pub left : List Decision → ℕ
  left made = count_by (unmade made) (decisions c es)

  -- each decision that is made leaves fewer
  pub fewer_left : (made : List Decision) (d : Decision) → is_ready c es made d ≡ true → left (made ++ d ∷ []) < left made
  fewer_left made d ready = at (there c es d (ready_is_one c es made d ready))
    where
      at : Contains (decisions c es) d → left (made ++ d ∷ []) < left made
      at (k, lt, is) =
          let now : is_among (made ++ d ∷ []) d ≡ true = now_made made d d refl in
          let new : is_among made d ≡ false = ready_is_new c es made d ready in
          count_one_more (unmade (made ++ d ∷ [])) (unmade made)
          (λ x. contrary (is_among made x) (is_among (made ++ d ∷ []) x) (still_made made x d))
          (decisions c es) k d lt is (rw now refl) (rw new refl)

  -- all decisions, in the order in which they are made
  pub record AllDecisions (made : List Decision) : Type 0 where
    pub all : List Decision
    pub in_order : Decides c es ps made all

  none_ready : (made : List Decision) → ((d : Decision) → Contains (decisions c es) d → is_ready c es made d ≡ false) → AllDecisions made
  none_ready made none = record {
    all = made;
    in_order = all_made made (λ d. false_from_ne_true (is_ready c es made d) (λ ready.
        never_both (is_ready c es made d) ready (none d (there c es d (ready_is_one c es made d ready)))));
  }

  pub next_of : (made : List Decision) (d : Decision) → is_ready c es made d ≡ true
      → ((e : Decision) → Contains (decisions c es) e → is_ready c es made e ≡ true → e ≢ d → is_made_before c es ps d e ≡ true) → IsMadeNext c es ps made d
  next_of made d ready first = record {
    ready = ready;
    first = λ e also other. first e (there c es e (ready_is_one c es made e also)) also other;
  }

  go_on : (room : ℕ) (made : List Decision) → left made ≤ room → AllDecisions made
  go_on zero made le = elim (best made (decisions c es)) [
    | nothing none ↦ none_ready made none
    | found d ready first ↦ let less = fewer_left made d ready in absurd (let f : ⊥ = omega arith in f)
  ]
  go_on (suc room) made le = elim (best made (decisions c es)) [
    | nothing none ↦ none_ready made none
    | found d ready first ↦
        let less = fewer_left made d ready in
        let a : AllDecisions (made ++ d ∷ []) = go_on room (made ++ d ∷ []) (omega arith) in
        record { all = a.all; in_order = one_more made a.all d (next_of made d ready first) a.in_order }
  ]

  pub all_decisions_made : AllDecisions []
  all_decisions_made = go_on (left []) [] (omega arith)
