-- Loops of links are loops of their edges.
use Rattle.std.proofs.Common.{arith, ◌≡◌, ◌≢◌, ◌<◌, ◌*◌, ◌&&◌, ℕ, Bool, true, false, [], ◌∷◌, ◌++◌, cond, map, length, refl, sym, ◌∙◌, ap, inl, inr, Contains}
use Rattle.std.specs.List.{flat_map, range_with_len}
use Rattle.std.proofs.lemmas.List.Elements.{Contains-append_cases}
use Rattle.edges.specs.declared.edge.Edge.{Edge}
use Rattle.edges.specs.Chains.{linked}
use Rattle.edges.specs.Loops.{EndsWithin, HasLoop, HasNoLoop as NoLoopOfEdges, RiseSomehow}
use Rattle.edges.proofs.Heights.{rise_somehow}
use Rattle.edges.proofs.Paths.{loop_or_none}
use Rattle.cluster_types.specs.declared.cluster.Cluster.{Cluster}
use Rattle.cluster_types.specs.declared.leaf.Op.{Op}
use Rattle.cluster_types.specs.declared.leaf.Op.TheVariants.{Start, Stop, Promote, Demote, Monitor}
use Rattle.cluster_types.specs.declared.rules.Order.{Order}
use Rattle.cluster_types.specs.Numbers.{IsStepLink, StepsHaveNoLoop, Link, LeafStep, inverse_links, leaf_links, link, links, order_links}
use Rattle.cluster_types.specs.Precedence.{inverse, is_serialize, is_giving, takers}
use Rattle.cluster_types.specs.Precedes.{PutsFirst, forth, back, turned}
use Rattle.loops.specs.Inner.Edges.{counts_link, link_edge, step_edges, step_position}
use Rattle.loops.specs.FirstLoops.{AllOrder, OrdersSteps, StepsHaveLoop}
use Rattle.cluster_types.proofs.OrderLinks.{of_link}
use Rattle.lemmas.proofs.Members.{head_or_rest, in_map, in_none, of_filter, of_flat, of_map, of_range}
use Rattle.edges.proofs.Relations.{LinkFor, OneAt, ring_of_loop}
use Rattle.loops.proofs.Chained.{no_ring}
use Rattle.loops.proofs.StepPlaces.{Stands, inverse_changes, position_is, position_within, same_spot, spot}

-- both steps of the link are of leaves that are there
pub record BothStand (n : ℕ) (l : Link) : Type 0 where
  pub first : Stands n l.before
  pub later : Stands n l.after

pub both_stand : (n : ℕ) (o : Op) (r : ℕ) (p : Op) (s : ℕ) (l : Link) → link o r p s ≡ l → o ≢ Monitor → r < n → p ≢ Monitor → s < n
    → BothStand n l
both_stand n o r p s l e ne lt nf ls =
    rw (← e) (record { first = record { within = lt; changes = ne }; later = record { within = ls; changes = nf } })

of_leaf : (n r : ℕ) (l : Link) → r < n → Contains (leaf_links r) l → BothStand n l
of_leaf n r l lt h = elim (head_or_rest (link Demote r Stop r) (link Start r Promote r ∷ []) l h) [
  | inl e ↦ both_stand n Demote r Stop r l e (λ x. cc) lt (λ x. cc) lt
  | inr t ↦ elim (head_or_rest (link Start r Promote r) [] l t) [
    | inl e ↦ both_stand n Start r Promote r l e (λ x. cc) lt (λ x. cc) lt
    | inr f ↦ absurd (in_none l f)
  ]
]

takers_change : (o p : Op) → Contains (takers o) p → p ≢ Monitor
takers_change Start p h e = elim (head_or_rest Stop [] p h) [
  | inl s ↦ cc
  | inr f ↦ in_none p f
]
takers_change Promote p h e = elim (head_or_rest Demote (Stop ∷ []) p h) [
  | inl s ↦ cc
  | inr t ↦ elim (head_or_rest Stop [] p t) [
    | inl s ↦ cc
    | inr f ↦ in_none p f
  ]
]
takers_change Stop p h e = in_none p h
takers_change Demote p h e = in_none p h
takers_change Monitor p h e = in_none p h

module _ (c : Cluster) (o : Order) (ordered : OrdersSteps c o) where
  of_put : (p q : Op) (r s : ℕ) → PutsFirst o p r q s → BothStand (length c.leaves) (link p r q s)
  of_put _ _ _ _ forth =
      both_stand (length c.leaves) o.first_op o.first o.then_op o.then_leaf (link o.first_op o.first o.then_op o.then_leaf) refl ordered.first_word ordered.first
      ordered.later_word ordered.later
  of_put _ _ _ _ (back p q symmetrical up inp inq) =
      both_stand (length c.leaves) p o.then_leaf q o.first (link p o.then_leaf q o.first) refl (takers_change o.then_op p inp) ordered.later
      (takers_change o.first_op q inq) ordered.first
  of_put _ _ _ _ (turned symmetrical up) =
      both_stand (length c.leaves) (inverse o.then_op) o.then_leaf (inverse o.first_op) o.first (link (inverse o.then_op) o.then_leaf (inverse o.first_op) o.first) refl
      (inverse_changes o.then_op ordered.later_word) ordered.later (inverse_changes o.first_op ordered.first_word) ordered.first

  of_order : (l : Link) → Contains (order_links o) l → BothStand (length c.leaves) l
  of_order l h = of_put l.before.what l.after.what l.before.leaf l.after.leaf (of_link o l h)

module _ (c : Cluster) (ordered : AllOrder c) where
  pub links_stand : (l : Link) → Contains (links c) l → BothStand (length c.leaves) l
  links_stand l h =
      let k = of_filter (counts_link c) (flat_map leaf_links (range_with_len 0 (length c.leaves)) ++ flat_map order_links c.orders) l h in
      elim (Contains-append_cases (flat_map leaf_links (range_with_len 0 (length c.leaves))) (flat_map order_links c.orders) l k.among) [
        | inl own ↦
            let f = of_flat leaf_links (range_with_len 0 (length c.leaves)) l own in
            let lt = of_range 0 (length c.leaves) f.source f.among in
            of_leaf (length c.leaves) f.source l (omega arith) f.gives
        | inr other ↦
            let f = of_flat order_links c.orders l other in
            of_order c f.source (ordered f.source f.among) l f.gives
      ]

  link_for : (e : Edge) (s : LeafStep) → Contains (step_edges c) e → e.before ≡ spot (length c.leaves) s
      → LinkFor (IsStepLink c) (spot (length c.leaves)) e s
  link_for e s h from =
      let m = of_map link_edge (links c) e h in
      let b = links_stand m.source m.among in
      let at : step_position m.source.before ≡ e.before = ap (λ (x : Edge). x.before) m.gives in
      let same : m.source.before ≡ s
      = same_spot (length c.leaves) m.source.before s b.first (sym (position_is (length c.leaves) m.source.before b.first) ∙ at ∙ from) in
      let one : IsStepLink c m.source.before m.source.after = linked m.source m.among in
      record {
        next = m.source.after;
        link = rw same at one;
        to = sym (ap (λ (x : Edge). x.after) m.gives) ∙ position_is (length c.leaves) m.source.after b.later;
      }

  begins_at : (e : Edge) → Contains (step_edges c) e → OneAt (spot (length c.leaves)) e.before
  begins_at e h =
      let m = of_map link_edge (links c) e h in
      let b = links_stand m.source m.among in
      record {
        thing = m.source.before;
        here = sym (ap (λ (x : Edge). x.before) m.gives) ∙ position_is (length c.leaves) m.source.before b.first;
        alone = λ t same. same_spot (length c.leaves) m.source.before t b.first same;
      }

  pub steps_within : EndsWithin (4 * length c.leaves) (step_edges c)
  steps_within e h =
      let m = of_map link_edge (links c) e h in
      let b = links_stand m.source m.among in
      rw (← m.gives) (position_within (length c.leaves) m.source.before b.first, position_within (length c.leaves) m.source.after b.later)

  pub steps_loop : HasLoop (step_edges c) → StepsHaveLoop c
  steps_loop l =
      let one = ring_of_loop (IsStepLink c) (spot (length c.leaves)) (step_edges c) link_for begins_at l in
      record { step = one.thing; loop = one.chain }

  -- a height of the edges rises along each link
  pub link_rises : (rising : RiseSomehow (step_edges c)) (s t : LeafStep) → IsStepLink c s t
      → rising.height (spot (length c.leaves) s) < rising.height (spot (length c.leaves) t)
  link_rises rising _ _ (linked l h) =
      let b = links_stand l h in
      let up = rising.rises (link_edge l) (in_map link_edge (links c) l h) in
      rw (position_is (length c.leaves) l.after b.later) at (rw (position_is (length c.leaves) l.before b.first) at up)

  pub steps_free : NoLoopOfEdges (step_edges c) → StepsHaveNoLoop c
  steps_free free =
      let rising : RiseSomehow (step_edges c) = rise_somehow (4 * length c.leaves) (step_edges c) steps_within free in
      no_ring (IsStepLink c) (λ s. rising.height (spot (length c.leaves) s)) (link_rises rising)

  pub loop_of_steps : StepsHaveLoop c → HasLoop (step_edges c)
  loop_of_steps l = elim (loop_or_none (4 * length c.leaves) (step_edges c) steps_within) [
    | inl loop ↦ loop
    | inr none ↦ absurd (steps_free none l.step l.loop)
  ]

  -- without a loop of links there is none of edges
  pub edges_free : StepsHaveNoLoop c → NoLoopOfEdges (step_edges c)
  edges_free free = elim (loop_or_none (4 * length c.leaves) (step_edges c) steps_within) [
    | inl loop ↦ let l : StepsHaveLoop c = steps_loop loop in absurd (free l.step l.loop)
    | inr none ↦ none
  ]

  pub rising_steps : StepsHaveNoLoop c → RiseSomehow (step_edges c)
  rising_steps free = rise_somehow (4 * length c.leaves) (step_edges c) steps_within (edges_free free)
