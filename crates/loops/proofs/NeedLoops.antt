-- Loops of needs are loops of their edges.
use Rattle.std.proofs.Common.{arith, ◌≡◌, ◌<◌, ◌≤◌, ◌+◌, ◌-◌, ◌*◌, ℕ, map, length, take, sym, ap, inl, inr, Contains}
use Rattle.std.specs.List.{range_with_len}
use Rattle.std.proofs.Math.Seq.{take-append-add}
use Rattle.std.proofs.lemmas.Bool.{cases_lt}
use Rattle.std.proofs.lemmas.List.{length-append, length-map, take-append-le, take-map}
use Rattle.std.proofs.lemmas.List.Elements.{Contains-append_cases}
use Rattle.std.proofs.lemmas.List.FromFn.{length-map-range_with_len}
use Rattle.edges.specs.declared.edge.Edge.{Edge}
use Rattle.edges.specs.Loops.{ClosesFirst, EndsWithin, HasLoop, HasNoLoop, RiseSomehow}
use Rattle.edges.proofs.Endings.{one_way}
use Rattle.edges.proofs.Heights.{rise_somehow}
use Rattle.edges.proofs.Paths.{loop_or_none, none_where_rising}
use Rattle.cluster_types.specs.declared.cluster.Cluster.{Cluster}
use Rattle.cluster_types.specs.declared.leaf.Role.{Role}
use Rattle.cluster_types.specs.declared.leaf.Role.TheVariants.{Started, Promoted}
use Rattle.cluster_types.specs.declared.placement.Decision.{Decision}
use Rattle.cluster_types.specs.declared.placement.Decision.TheVariants.{Promote}
use Rattle.cluster_types.specs.Decisions.{IsNeedLink, NeedsHaveNoLoop, all_decisions, decision_of}
use Rattle.loops.specs.Inner.Edges.{colocation_edge, decision_position, leaf_edge, leaf_edges, need_edges}
use Rattle.loops.specs.FirstLoops.{AllJoin, ClosesNeeds, NeedsHaveLoop, with_first_colocations}
use Rattle.lemmas.proofs.Members.{of_map, of_range, contains_first}
use Rattle.edges.proofs.Relations.{OneAt, ring_of_loop}
use Rattle.loops.proofs.Chained.{no_ring}
use Rattle.loops.proofs.Needs.{edge_for, link_for, same_position}

module _ (c : Cluster) (joined : AllJoin c) where
  begins_at : (e : Edge) → Contains (need_edges c) e → OneAt decision_position e.before
  begins_at e h = elim (Contains-append_cases (leaf_edges (length c.leaves)) (map colocation_edge c.colocations) e h) [
    | inl l ↦
        let m = of_map leaf_edge (range_with_len 0 (length c.leaves)) e l in
        record {
          thing = Promote m.source;
          here = sym (ap (λ (x : Edge). x.before) m.gives);
          alone = λ d same. same_position (Promote m.source) d same;
        }
    | inr r ↦
        let m = of_map colocation_edge c.colocations e r in
        record {
          thing = decision_of m.source.dependent m.source.dependent_role;
          here = sym (ap (λ (x : Edge). x.before) m.gives);
          alone = λ d same. same_position (decision_of m.source.dependent m.source.dependent_role) d same;
        }
  ]

  role_within : (r : ℕ) (role : Role) (n : ℕ) → r < n → decision_position (decision_of r role) < 2 * n
  role_within r Started n lt = omega arith
  role_within r Promoted n lt = omega arith

  pub needs_within : EndsWithin (2 * length c.leaves) (need_edges c)
  needs_within e h = elim (Contains-append_cases (leaf_edges (length c.leaves)) (map colocation_edge c.colocations) e h) [
    | inl l ↦
        let m = of_map leaf_edge (range_with_len 0 (length c.leaves)) e l in
        let lt = of_range 0 (length c.leaves) m.source m.among in
        rw (← m.gives) (omega arith, omega arith)
    | inr r ↦
        let m = of_map colocation_edge c.colocations e r in
        let j = joined m.source m.among in
        rw (← m.gives) (
          role_within m.source.dependent m.source.dependent_role (length c.leaves) j.dependent,
          role_within m.source.primary m.source.primary_role (length c.leaves) j.primary,
        )
  ]

  pub needs_loop : HasLoop (need_edges c) → NeedsHaveLoop c
  needs_loop l =
      let one = ring_of_loop (IsNeedLink c (all_decisions c)) decision_position (need_edges c) (link_for c joined) begins_at l in
      record { decision = one.thing; loop = one.chain }

  -- a height of the edges rises along each need
  pub need_rises : (rising : RiseSomehow (need_edges c)) (d e : Decision) → IsNeedLink c (all_decisions c) d e
      → rising.height (decision_position d) < rising.height (decision_position e)
  need_rises rising d e n =
      let one = edge_for c joined e d n.there n.needed in
      let up = rising.rises one.edge one.among in
      rw one.to at (rw one.from at up)

  pub needs_free : HasNoLoop (need_edges c) → NeedsHaveNoLoop c
  needs_free free =
      let rising : RiseSomehow (need_edges c) = rise_somehow (2 * length c.leaves) (need_edges c) needs_within free in
      no_ring (IsNeedLink c (all_decisions c)) (λ d. rising.height (decision_position d)) (need_rises rising)

  pub loop_of_needs : NeedsHaveLoop c → HasLoop (need_edges c)
  loop_of_needs l = elim (loop_or_none (2 * length c.leaves) (need_edges c) needs_within) [
    | inl loop ↦ loop
    | inr none ↦ absurd (needs_free none l.decision l.loop)
  ]

  pub rising_needs : NeedsHaveNoLoop c → RiseSomehow (need_edges c)
  rising_needs free =
      rise_somehow (2 * length c.leaves) (need_edges c) needs_within (elim (loop_or_none (2 * length c.leaves) (need_edges c) needs_within) [
        | inl loop ↦ let l : NeedsHaveLoop c = needs_loop loop in absurd (free l.decision l.loop)
        | inr none ↦ none
      ])

-- the leaves alone have no loop: each of their edges leads to a higher position
leaves_rise : (k n : ℕ) (e : Edge) → Contains (take k (map leaf_edge (range_with_len 0 n))) e → e.before < e.after
leaves_rise k n e h =
    let m = of_map leaf_edge (range_with_len 0 n) e (contains_first k (map leaf_edge (range_with_len 0 n)) e h) in
    rw (← m.gives) (omega arith)

pub leaves_free : (k n : ℕ) → HasNoLoop (take k (map leaf_edge (range_with_len 0 n)))
leaves_free k n = none_where_rising (take k (map leaf_edge (range_with_len 0 n))) (λ x. x) (leaves_rise k n)

module _ (c : Cluster) (joined : AllJoin c) where
  -- fewer edges than leaves are edges of leaves
  few : (k : ℕ) → k ≤ length c.leaves → take k (need_edges c) ≡ take k (leaf_edges (length c.leaves))
  few k le =
      let l = length-map-range_with_len leaf_edge 0 (length c.leaves) in
      take-append-le k (leaf_edges (length c.leaves)) (map colocation_edge c.colocations) (omega arith)

  -- the edges of the first colocations are the first edges
  pub first_edges : (k : ℕ) → take (length c.leaves + k) (need_edges c) ≡ need_edges (with_first_colocations c k)
  first_edges k =
      let l = length-map-range_with_len leaf_edge 0 (length c.leaves) in
      let t = take-append-add (leaf_edges (length c.leaves)) (map colocation_edge c.colocations) k in
      let m = take-map colocation_edge k c.colocations in
      rw m at (rw l at t)

  pub first_joined : (k : ℕ) → AllJoin (with_first_colocations c k)
  first_joined k col h =
      let j = joined col (contains_first k c.colocations col h) in
      record { dependent = j.dependent; primary = j.primary }

  pub behind_leaves : (place : ℕ) → ClosesFirst (need_edges c) place → length c.leaves ≤ place
  behind_leaves place f = elim (cases_lt place (length c.leaves)) [
    | inl lt ↦
        let free : HasNoLoop (take (place + 1) (need_edges c))
        = rw (few (place + 1) (omega arith)) (leaves_free (place + 1) (length c.leaves)) in
        absurd (one_way (take (place + 1) (need_edges c)) f.closed free)
    | inr ge ↦ ge
  ]

  pub closes_needs : (place : ℕ) → ClosesFirst (need_edges c) place → ClosesNeeds c (place - length c.leaves)
  closes_needs place f =
      let ge = behind_leaves place f in
      on (place - length c.leaves) (omega arith)
    where
      on : (k : ℕ) → place ≡ length c.leaves + k → ClosesNeeds c k
      on k e =
          let w = f.within in
          let a = length-append (leaf_edges (length c.leaves)) (map colocation_edge c.colocations) in
          let l = length-map-range_with_len leaf_edge 0 (length c.leaves) in
          let m = length-map c.colocations colocation_edge in
          let one : place + 1 ≡ length c.leaves + (k + 1) = omega arith in
          let before : HasNoLoop (need_edges (with_first_colocations c k))
          = rw (first_edges k) at (rw e at f.before) in
          let closed : HasLoop (need_edges (with_first_colocations c (k + 1)))
          = rw (first_edges (k + 1)) at (rw one at f.closed) in
          record {
            within = omega arith;
            before = needs_free (with_first_colocations c k) (first_joined k) before;
            closed = needs_loop (with_first_colocations c (k + 1)) (first_joined (k + 1)) closed;
          }
