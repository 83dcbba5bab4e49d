-- A decision that needs another through a chain of needs does so through no more of them than there are decisions.
use Rattle.std.proofs.Common.{arith, ◌≡◌, ◌≤◌, ◌||◌, ◌⊎◌, ℕ, suc, zero, Bool, true, false, List, length, count_by, inl, inr, refl, Contains}
use Rattle.std.proofs.lemmas.Bool.{cases_lt, or_left, or_right}
use Rattle.std.proofs.lemmas.List.Sums.{count_by-le-length}
use Rattle.lemmas.proofs.Booleans.{one_of}
use Rattle.lemmas.proofs.Counts.{count_one_more}
use Rattle.loops.proofs.ComputedChains.{needs_computed}
use Rattle.loops.proofs.Needs.{is_itself}
use Rattle.edges.specs.Chains.{link_then, one_link}
use Rattle.cluster_types.specs.declared.cluster.Cluster.{Cluster}
use Rattle.cluster_types.specs.declared.placement.Decision.{Decision}
use Rattle.cluster_types.specs.Decisions.{IsNeedLink, NeedsByChain, is_same_decision, needs_through}
use Rattle.placement.specs.Inner.Lending.{needs_within}
use Rattle.placement.proofs.LastNeeds.{FirstNeed, by_first, first_need, more_needs}

module _ (c : Cluster) (ds : List Decision) (d : Decision) where
  abbrev reach : ℕ → Decision → Bool
  reach n e = needs_within c ds n e d

  -- one need more finds no other decision
  abbrev Stays : ℕ → Type 0
  Stays n = (e : Decision) → Contains ds e → reach (suc n) e ≡ true → reach n e ≡ true

  shorter : (n : ℕ) → Stays n → (m : ℕ) (e : Decision) → (w : FirstNeed c ds m e d) → (reach m w.via ≡ true → reach n w.via ≡ true) → Contains ds e
      → reach n e ≡ true
  shorter n stays m e w short there =
      stays e there (by_first c ds n e w.via d w.among w.wanted
      (one_of (is_same_decision w.via d) (is_same_decision w.via d) (reach m w.via) (reach n w.via) (λ h. h) short w.on))

  stays_on : (n : ℕ) → Stays n → Stays (suc n)
  stays_on n stays e there h =
      let w : FirstNeed c ds (suc n) e d = first_need c ds (suc n) e d h in
      more_needs c ds n e d (shorter n stays (suc n) e w (stays w.via w.among) there)

  -- each need more finds one more at least, or none
  same_count : (n : ℕ) → count_by (reach (suc n)) ds ≤ count_by (reach n) ds → Stays n
  same_count n few e (k, lt, at) h = go (reach n e) refl
    where
      go : (b : Bool) → reach n e ≡ b → reach n e ≡ true
      go true r = r
      go false r =
          let more = count_one_more (reach n) (reach (suc n)) (λ f g. more_needs c ds n f d g) ds k e lt at r h in
          absurd (let f : ⊥ = omega (arith, few, more) in f)

  found : (n : ℕ) → (n ≤ count_by (reach n) ds) ⊎ Stays n
  found zero = inl (omega arith)
  found (suc n) = go (found n)
    where
      go : (n ≤ count_by (reach n) ds) ⊎ Stays n → (suc n ≤ count_by (reach (suc n)) ds) ⊎ Stays (suc n)
      go (inr stays) = inr (stays_on n stays)
      go (inl many) = elim (cases_lt (count_by (reach n) ds) (count_by (reach (suc n)) ds)) [
        | inl more ↦ inl (omega (arith, many, more))
        | inr few ↦ inr (stays_on n (same_count n few))
      ]

  stays_last : Stays (length ds)
  stays_last e (k, lt, at) h = go (found (length ds))
    where
      all : (b : Bool) → reach (length ds) e ≡ b → length ds ≤ count_by (reach (length ds)) ds → reach (length ds) e ≡ true
      all true r many = r
      all false r many =
          let less = count_one_more (reach (length ds)) (λ (f : Decision). true) (λ f g. refl) ds k e lt at r refl in
          let most = count_by-le-length (λ (f : Decision). true) ds in
          absurd (let f : ⊥ = omega (arith, many, less, most) in f)

      go : (length ds ≤ count_by (reach (length ds)) ds) ⊎ Stays (length ds) → reach (length ds) e ≡ true
      go (inl many) = all (reach (length ds) e) refl many
      go (inr stays) = stays e (k, lt, at) h

module _ (c : Cluster) (ds : List Decision) where
  -- e needs f, and f is d or needs it
  led_by : (e f d : Decision) → Contains ds e → IsNeedLink c ds e f → is_same_decision f d || needs_within c ds (length ds) f d ≡ true
      → needs_within c ds (length ds) e d ≡ true
  led_by e f d there l on = stays_last c ds d e there (by_first c ds (length ds) e f d l.there l.needed on)

  chain_within : (e d : Decision) → Contains ds e → NeedsByChain c ds e d → needs_within c ds (length ds) e d ≡ true
  chain_within e d there (one_link _ _ l) = led_by e d d there l (or_left (is_same_decision d d) _ (is_itself d))
  chain_within e d there (link_then _ f _ l _ rest) = led_by e f d there l (or_right (is_same_decision f d) _ (chain_within f d l.there rest))

  pub needs_short : (e d : Decision) → Contains ds e → needs_through c ds e d ≡ true → needs_within c ds (length ds) e d ≡ true
  needs_short e d there h = chain_within e d there ((needs_computed c ds e d).1 h)
