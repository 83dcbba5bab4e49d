-- Links lead from the decisions that are needed, and a decision that no link holds needs none that isn't made.
use Rattle.std.proofs.Common.{◌≡◌, ◌*◌, ◌<◌, ◌==◌, ◌&&◌, ◌||◌, not, Bool, true, false, if◌then◌else◌, List, [], ◌∷◌, length, slice_index_or, Contains, Any, eqb-true, refl, sym, ap, subst, ◌∙◌, inl, inr}
use Rattle.std.specs.List.{flat_map, list_all, list_any}
use Rattle.std.proofs.lemmas.Bool.{and_from, eq-eqb, false_from_ne_true, false≢true, not-true, or_right}
use Rattle.std.proofs.lemmas.List.Elements.{Contains-append_cases, Contains-append_left, Contains-append_right}
use Rattle.std.proofs.lemmas.List.Folds.{Any-from_list_any}
use Rattle.std.proofs.lemmas.Option.{unwrap_or-slice_get}
use Rattle.lemmas.proofs.Booleans.{either, later, same_test, sooner}
use Rattle.lemmas.proofs.Counts.{count-none, count_none}
use Rattle.lemmas.proofs.Members.{Flat, at_head, head_or_rest, in_flat, in_none, of_flat}
use Rattle.lemmas.proofs.Searches.{passes_by}
use Rattle.loops.proofs.Needs.{is_itself, same_decision}
use Rattle.cluster_types.specs.declared.cluster.Cluster.{Cluster}
use Rattle.edges.specs.declared.edge.Edge.{Edge}
use Rattle.cluster_types.specs.declared.placement.Decision.{Decision}
use Rattle.cluster_types.specs.declared.placement.Decision.TheVariants.{Place, Promote}
use Rattle.cluster_types.specs.declared.rules.Colocation.{Colocation}
use Rattle.cluster_types.specs.Decisions.{decision_of, is_among, is_place, is_same_decision, makes_need, leaf_of, needs}
use Rattle.edges.specs.Loops.{EndsWithin}
use Rattle.cluster_types.specs.Valid.{IsValid}
use Rattle.plan_laws.proofs.Ready.{needs_place}
use Rattle.plan_laws.proofs.MadeOnes.{stands_among}
use Rattle.placement.specs.Inner.Flags.{AreFlags, slot_of}
use Rattle.placement.specs.Inner.Links.{lending_link, links_in, promote_links, rule_links}
use Rattle.placement.specs.Inner.Queueing.{held}
use Rattle.placement.proofs.FlagLaws.{flag-is, same-slot, slot-within}
use Rattle.placement.proofs.ReadyFlags.{all-met, among-is}
use Rattle.placement.proofs.SameDecisions.{role-within, same-turned}

-- a need by a colocation
pub needs_rule : (c : Cluster) (d : Decision) (col : Colocation) → Contains c.colocations col → is_same_decision (decision_of col.primary col.primary_role) d ≡ true
    → needs c (decision_of col.dependent col.dependent_role) d ≡ true
needs_rule c d col there same =
    let f = decision_of col.dependent col.dependent_role in
    or_right (not (is_place f) && is_same_decision d (Place (leaf_of f))) _
    (passes_by (makes_need f d) c.colocations col there (and_from (is_same_decision f f) _ (is_itself f) (same-turned d (decision_of col.primary col.primary_role) ∙ same)))

module _ (c : Cluster) (valid : IsValid c) (ds : List Decision) (low : (d : Decision) → Contains ds d → leaf_of d < length c.leaves) where
  abbrev links : List Edge
  links = links_in c ds

  -- a link is a need
  pub record Linked (e : Edge) : Type 0 where
    pub needed : Decision
    pub needing : Decision
    pub among : Contains ds needed
    pub within : leaf_of needing < length c.leaves
    pub wants : needs c needing needed ≡ true
    pub is : lending_link needed needing ≡ e

  by-promote : (d : Decision) (e : Edge) → Contains ds d → Contains (promote_links d) e → Linked e
  by-promote (Place r) e there h = elim (head_or_rest (lending_link (Place r) (Promote r)) [] e h) [
    | inl is ↦ record { needed = Place r; needing = Promote r; among = there; within = low (Place r) there; wants = needs_place c r; is = is }
    | inr none ↦ absurd (in_none e none)
  ]
  by-promote (Promote r) e there h = absurd (in_none e h)

  by-rule : (col : Colocation) (e : Edge) → Contains c.colocations col → (known : Bool) → is_among ds (decision_of col.primary col.primary_role) ≡ known
      → Contains (if known then lending_link (decision_of col.primary col.primary_role) (decision_of col.dependent col.dependent_role) ∷ [] else []) e → Linked e
  by-rule col e there true k h =
      let primary = decision_of col.primary col.primary_role in
      let dependent = decision_of col.dependent col.dependent_role in
      elim (head_or_rest (lending_link primary dependent) [] e h) [
        | inl is ↦ record {
          needed = primary;
          needing = dependent;
          among = stands_among ds primary k;
          within = role-within c col.dependent col.dependent_role (valid.colocations col there).dependent;
          wants = needs_rule c primary col there (is_itself primary);
          is = is;
        }
        | inr none ↦ absurd (in_none e none)
      ]
  by-rule col e there false k h = absurd (in_none e h)

  pub linked : (e : Edge) → Contains links e → Linked e
  linked e h = elim (Contains-append_cases (flat_map promote_links ds) (flat_map (rule_links ds) c.colocations) e h) [
    | inl place ↦ (let f : Flat promote_links ds e = of_flat promote_links ds e place in by-promote f.source e f.among f.gives)
    | inr rule ↦ (
        let f : Flat (rule_links ds) c.colocations e = of_flat (rule_links ds) c.colocations e rule in
        by-rule f.source e f.among (is_among ds (decision_of f.source.primary f.source.primary_role)) refl f.gives)
  ]

  -- both ends are slots
  pub links-within : EndsWithin (length c.leaves * 2) links
  links-within e h =
      let l = linked e h in
      let before = slot-within (length c.leaves) l.needed (low l.needed l.among) in
      let after = slot-within (length c.leaves) l.needing l.within in
      subst (λ (x : Edge). (x.before < length c.leaves * 2) × (x.after < length c.leaves * 2)) l.is (before, after)

  -- and each need has its link
  from-place : (d f : Decision) → Contains ds f → not (is_place d) && is_same_decision f (Place (leaf_of d)) ≡ true → Contains (flat_map promote_links ds) (lending_link f d)
  from-place (Place r) f there h = cc
  from-place (Promote r) (Promote s) there h = cc
  from-place (Promote r) (Place s) there h =
      let same : Place s ≡ Place r = same_decision (Place s) (Place r) h in
      in_flat promote_links ds (Place s) (lending_link (Place s) (Promote r)) there
      (at_head (lending_link (Place s) (Promote s)) [] (lending_link (Place s) (Promote r)) (ap (λ (x : Decision). lending_link (Place s) (Promote (leaf_of x))) same))

  from-rule : (d f : Decision) → Contains ds f → Any (λ col. makes_need d f col ≡ true) c.colocations → Contains (flat_map (rule_links ds) c.colocations) (lending_link f d)
  from-rule d f there (k, col, lt, at, j) =
      let primary = decision_of col.primary col.primary_role in
      let dependent = decision_of col.dependent col.dependent_role in
      let is_d : d ≡ dependent = same_decision d dependent (sooner (is_same_decision d dependent) _ j) in
      let is_f : f ≡ primary = same_decision f primary (later (is_same_decision d dependent) _ j) in
      let known : is_among ds primary ≡ true = ap (is_among ds) (sym is_f) ∙ among-is ds f there in
      let whole : rule_links ds col ≡ lending_link primary dependent ∷ [] = ap (λ (b : Bool). if b then lending_link primary dependent ∷ [] else []) known in
      let one : lending_link primary dependent ≡ lending_link f d = ap (λ (x : Decision). lending_link x dependent) (sym is_f) ∙ ap (lending_link f) (sym is_d) in
      in_flat (rule_links ds) c.colocations col (lending_link f d) (k, lt, at)
      (subst (λ (es : List Edge). Contains es (lending_link f d)) (sym whole) (at_head (lending_link primary dependent) [] (lending_link f d) one))

  pub link-there : (d f : Decision) → Contains ds f → needs c d f ≡ true → Contains links (lending_link f d)
  link-there d f there h =
      either (not (is_place d) && is_same_decision f (Place (leaf_of d))) (list_any (makes_need d f) c.colocations) h
      (λ p. Contains-append_left (flat_map promote_links ds) (flat_map (rule_links ds) c.colocations) (lending_link f d) (from-place d f there p))
      (λ r. Contains-append_right (flat_map promote_links ds) (flat_map (rule_links ds) c.colocations) (lending_link f d) (from-rule d f there (Any-from_list_any (makes_need d f) c.colocations r)))

  module _ (made : List Decision) (flags : List Bool) (are : AreFlags (length c.leaves) (is_among made) flags) where
    pub was-made : (d : Decision) → leaf_of d < length c.leaves → slice_index_or flags (slot_of d) false ≡ is_among made d
    was-made d within = sym (unwrap_or-slice_get flags (slot_of d) false) ∙ flag-is (length c.leaves) (is_among made) flags are d within

    abbrev holds : Decision → Edge → Bool
    holds d e = slot_of d == e.after && not (slice_index_or flags e.before false)

    abbrev unmet : Decision → Decision → Bool
    unmet d f = needs c d f && not (is_among made f)

    free-of : (d : Decision) → held links flags (slot_of d) ≡ 0 → list_any (unmet d) ds ≡ false
    free-of d none = false_from_ne_true (list_any (unmet d) ds) (λ h. from (Any-from_list_any (unmet d) ds h))
      where
        from : Any (λ f. unmet d f ≡ true) ds → ⊥
        from (i, f, lt, at, pass) =
            let wants : needs c d f ≡ true = sooner (needs c d f) _ pass in
            let open_yet : not (is_among made f) ≡ true = later (needs c d f) _ pass in
            let l = link-there d f (i, lt, at) wants in
            let holding : holds d (lending_link f d) ≡ true = and_from (slot_of d == slot_of d) (not (slice_index_or flags (slot_of f) false)) (eq-eqb (slot_of d) (slot_of d) refl)
            (ap not (was-made f (low f (i, lt, at))) ∙ open_yet) in
            false≢true (sym (count_none (holds d) links none l.0 (lending_link f d) l.1 l.2) ∙ holding)

    held-by : (d : Decision) → list_any (unmet d) ds ≡ false → held links flags (slot_of d) ≡ 0
    held-by d none = count-none (holds d) links (false_from_ne_true (list_any (holds d) links) (λ h. from (Any-from_list_any (holds d) links h)))
      where
        from : Any (λ e. holds d e ≡ true) links → ⊥
        from (i, e, lt, at, pass) =
            let l = linked e (i, lt, at) in
            let end : slot_of d ≡ e.after = eqb-true (slot_of d) e.after (sooner (slot_of d == e.after) _ pass) in
            let slots : slot_of d ≡ slot_of l.needing = end ∙ sym (ap (λ (x : Edge). x.after) l.is) in
            let one : d ≡ l.needing = same_decision d l.needing (sym (same-slot d l.needing) ∙ eq-eqb (slot_of d) (slot_of l.needing) slots) in
            let open_yet : not (slice_index_or flags (slot_of l.needed) false) ≡ true =
            ap (λ (x : Edge). not (slice_index_or flags x.before false)) l.is ∙ later (slot_of d == e.after) _ pass in
            let unmade : not (is_among made l.needed) ≡ true = sym (ap not (was-made l.needed (low l.needed l.among))) ∙ open_yet in
            let wants : needs c d l.needed ≡ true = ap (λ (x : Decision). needs c x l.needed) one ∙ l.wants in
            false≢true (sym none ∙ passes_by (unmet d) ds l.needed l.among (and_from (needs c d l.needed) (not (is_among made l.needed)) wants unmade))

    -- no link holds a decision just where each that it needs is made
    pub all-met-by : (d : Decision) → (held links flags (slot_of d) == 0) ≡ list_all (λ f. not (needs c d f) || is_among made f) ds
    all-met-by d =
        same_test (held links flags (slot_of d) == 0) (not (list_any (unmet d) ds))
        (λ h. ap not (free-of d (eqb-true (held links flags (slot_of d)) 0 h)))
        (λ h. eq-eqb (held links flags (slot_of d)) 0 (held-by d (not-true (list_any (unmet d) ds) h)))
        ∙ all-met (needs c d) (is_among made) ds
