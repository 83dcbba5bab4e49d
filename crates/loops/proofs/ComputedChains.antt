-- What is computed of needs, ties and links is that a chain of them leads on, however long.
use Rattle.std.proofs.Common.{arith, ◌≡◌, ◌==◌, ◌&&◌, ℕ, true, List, length, map, Contains, Any}
use Rattle.std.specs.Prelude.{◌↔◌, ⊤}
use Rattle.std.specs.List.{range_with_len}
use Rattle.std.proofs.lemmas.Bool.{and_from, eqb-true}
use Rattle.std.proofs.lemmas.List.Folds.{Any-from_list_any}
use Rattle.lemmas.proofs.Booleans.{later, number_itself, sooner}
use Rattle.lemmas.proofs.Members.{in_filter, in_map, in_range, of_filter}
use Rattle.lemmas.proofs.Searches.{passes_by}
use Rattle.edges.specs.Chains.{Chain, leads_through, link_then, linked, one_link}
use Rattle.edges.proofs.ThroughOthers.{chains_computed}
use Rattle.cluster_types.specs.declared.cluster.Cluster.{Cluster}
use Rattle.cluster_types.specs.declared.placement.Decision.{Decision}
use Rattle.cluster_types.specs.declared.rules.Colocation.{Colocation}
use Rattle.cluster_types.specs.Decisions.{IsNeedLink, NeedsByChain, is_among, is_same_decision, needs, needs_at_once, needs_through}
use Rattle.cluster_types.specs.Numbers.{IsStepLink, Link, LeafStep, is_same_step, links}
use Rattle.cluster_types.specs.Terms.{IsTieLink, IsTied, is_tie, is_tied, is_tied_at_once, lenders}
use Rattle.loops.specs.FirstLoops.{AllJoin, is_link}
use Rattle.loops.proofs.Needs.{is_itself, same_decision}
use Rattle.loops.proofs.StepPlaces.{same_step, step_itself}

-- needs

module _ (c : Cluster) (among : List Decision) where
  need_passes : (d e : Decision) → IsNeedLink c among d e → needs_at_once c among d e ≡ true
  need_passes d e n =
      and_from (is_among among e) (needs c d e) (passes_by (is_same_decision e) among e n.there (is_itself e)) n.needed

  found_among : (e : Decision) → Any (λ f. is_same_decision e f ≡ true) among → Contains among e
  found_among e (k, f, lt, at, h) =
      let there : Contains among f = (k, lt, at) in
      let same : e ≡ f = same_decision e f h in
      rw (← same) at there

  need_tested : (d e : Decision) → IsNeedLink c among d e ↔ (needs_at_once c among d e ≡ true)
  need_tested d e = (
    need_passes d e,
    λ h. record {
      there = found_among e (Any-from_list_any (is_same_decision e) among (sooner (is_among among e) (needs c d e) h));
      needed = later (is_among among e) (needs c d e) h;
    },
  )

  pub needs_computed : (d e : Decision) → NeedsByChain c among d e ↔ (needs_through c among d e ≡ true)
  needs_computed = chains_computed (needs_at_once c among) (IsNeedLink c among) need_tested (λ via. ⊤) among (λ via there. tt) (λ d via e l m at. l.there)

  pub last_needed : (d e : Decision) → NeedsByChain c among d e → Contains among e
  last_needed d e (one_link _ _ l) = l.there
  last_needed d e (link_then _ via _ l _ rest) = last_needed via e rest

-- ties

module _ (c : Cluster) where
  tie_passes : (s r : ℕ) → IsTieLink c s r → is_tied_at_once c s r ≡ true
  tie_passes _ _ (linked col h) =
      let k = of_filter (is_tie c) c.colocations col h in
      passes_by (λ (other : Colocation). is_tie c other && other.dependent == col.dependent && other.primary == col.primary) c.colocations col k.among
      (and_from (is_tie c col && col.dependent == col.dependent) _
      (and_from (is_tie c col) _ k.passes (number_itself col.dependent)) (number_itself col.primary))

  found_tie : (s r : ℕ) → Any (λ (col : Colocation). is_tie c col && col.dependent == s && col.primary == r ≡ true) c.colocations → IsTieLink c s r
  found_tie s r (k, col, lt, at, h) =
      let first : is_tie c col && col.dependent == s ≡ true = sooner (is_tie c col && col.dependent == s) (col.primary == r) h in
      let from : col.dependent ≡ s = eqb-true col.dependent s (later (is_tie c col) (col.dependent == s) first) in
      let to : col.primary ≡ r = eqb-true col.primary r (later (is_tie c col && col.dependent == s) (col.primary == r) h) in
      rw (← from) (rw (← to) (linked col (in_filter (is_tie c) c.colocations col (k, lt, at) (sooner (is_tie c col) (col.dependent == s) first))))

  tie_tested : (s r : ℕ) → IsTieLink c s r ↔ (is_tied_at_once c s r ≡ true)
  tie_tested s r = (
    tie_passes s r,
    λ h. found_tie s r
        (Any-from_list_any (λ (col : Colocation). is_tie c col && col.dependent == s && col.primary == r) c.colocations h),
  )

  module _ (joined : AllJoin c) where
    primary_there : (s r : ℕ) → IsTieLink c s r → Contains (range_with_len 0 (length c.leaves)) r
    primary_there _ _ (linked col h) =
        let k = of_filter (is_tie c) c.colocations col h in
        let lt = (joined col k.among).primary in
        in_range 0 (length c.leaves) col.primary (omega arith) (omega arith)

    dependent_there : (s r : ℕ) → IsTieLink c s r → Contains (range_with_len 0 (length c.leaves)) s
    dependent_there _ _ (linked col h) =
        let k = of_filter (is_tie c) c.colocations col h in
        let lt = (joined col k.among).dependent in
        in_range 0 (length c.leaves) col.dependent (omega arith) (omega arith)

    first_there : (s r : ℕ) → IsTied c s r → Contains (range_with_len 0 (length c.leaves)) s
    first_there s r (one_link _ _ l) = dependent_there s r l
    first_there s r (link_then _ via _ l _ rest) = dependent_there s via l

    pub ties_computed : (s r : ℕ) → IsTied c s r ↔ (is_tied c s r ≡ true)
    ties_computed =
        chains_computed (is_tied_at_once c) (IsTieLink c) tie_tested (λ via. ⊤) (range_with_len 0 (length c.leaves)) (λ via there. tt)
        (λ s via r l m at. primary_there s via l)

    pub lenders_tied : (r s : ℕ) → Contains (lenders c r) s ↔ IsTied c s r
    lenders_tied r s = (
      λ h. (ties_computed s r).1 (of_filter (λ s. is_tied c s r) (range_with_len 0 (length c.leaves)) s h).passes,
      λ chain. in_filter (λ s. is_tied c s r) (range_with_len 0 (length c.leaves)) s (first_there s r chain) ((ties_computed s r).0 chain),
    )

-- links

module _ (c : Cluster) where
  link_passes : (s t : LeafStep) → IsStepLink c s t → is_link c s t ≡ true
  link_passes _ _ (linked l h) =
      passes_by (λ (k : Link). is_same_step k.before l.before && is_same_step k.after l.after) (links c) l h
      (and_from (is_same_step l.before l.before) _ (step_itself l.before) (step_itself l.after))

  found_link : (s t : LeafStep) → Any (λ (l : Link). is_same_step l.before s && is_same_step l.after t ≡ true) (links c) → IsStepLink c s t
  found_link s t (k, l, lt, at, h) =
      let from : l.before ≡ s = same_step l.before s (sooner (is_same_step l.before s) (is_same_step l.after t) h) in
      let to : l.after ≡ t = same_step l.after t (later (is_same_step l.before s) (is_same_step l.after t) h) in
      rw (← from) (rw (← to) (linked l (k, lt, at)))

  link_tested : (s t : LeafStep) → IsStepLink c s t ↔ (is_link c s t ≡ true)
  link_tested s t = (
    link_passes s t,
    λ h. found_link s t
        (Any-from_list_any (λ (l : Link). is_same_step l.before s && is_same_step l.after t) (links c) h),
  )

  abbrev begins : List LeafStep
  begins = map (λ l. l.before) (links c)

  link_begins : (s t : LeafStep) → IsStepLink c s t → Contains begins s
  link_begins _ _ (linked l h) = in_map (λ (l : Link). l.before) (links c) l h

  pub links_computed : (s t : LeafStep) → Chain (IsStepLink c) s t ↔ (leads_through (is_link c) (map (λ l. l.before) (links c)) s t ≡ true)
  links_computed = chains_computed (is_link c) (IsStepLink c) link_tested (λ via. ⊤) begins (λ via there. tt) (λ s via t l m at. link_begins via t m)

  pub chain_begins : (s t : LeafStep) → Chain (IsStepLink c) s t → Contains (map (λ l. l.before) (links c)) s
  chain_begins s t (one_link _ _ l) = link_begins s t l
  chain_begins s t (link_then _ via _ l _ rest) = link_begins s via l
