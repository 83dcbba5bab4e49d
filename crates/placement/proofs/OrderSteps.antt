-- The position of the first place that is ready is that of the decision that is made next.
use Rattle.std.proofs.Common.{arith, ◌≡◌, ◌≢◌, ℕ, ◌<◌, ◌*◌, ◌&&◌, true, false, List, length, get_or, slice_index_or, Contains, refl, sym, ap, subst, ◌∙◌, inl, inr}
use Rattle.std.proofs.lemmas.Bool.{cases_eq, cases_lt, eq-eqb, false≢true}
use Rattle.std.proofs.lemmas.List.{get_or-map, length-map}
use Rattle.std.proofs.lemmas.List.Elements.{Contains-get_or}
use Rattle.lemmas.proofs.Booleans.{later}
use Rattle.lemmas.proofs.Members.{in_map}
use Rattle.loops.proofs.Needs.{same_decision}
use Rattle.cluster_types.specs.declared.cluster.Cluster.{Cluster}
use Rattle.cluster_types.specs.declared.placement.Decision.{Decision}
use Rattle.cluster_types.specs.declared.placement.Decision.TheVariants.{Place}
use Rattle.cluster_types.specs.Decisions.{Key, is_among, leaf_of}
use Rattle.cluster_types.specs.Valid.{IsValid}
use Rattle.plan_laws.proofs.MadeBefore.{before_some_way}
use Rattle.placement.specs.declared.order.queue.Queue.{Queue}
use Rattle.placement.specs.declared.order.ranked_decisions.Ranked.{Ranked}
use Rattle.placement.specs.Inner.EffectiveKeys.{goes_before}
use Rattle.placement.specs.Inner.Flags.{AreFlags, slot_of}
use Rattle.placement.specs.Inner.Links.{links_in}
use Rattle.placement.specs.Inner.Queueing.{IsFirstPlace, IsQueue, has_place, is_free}
use Rattle.placement.specs.Inner.Turns.{AreSorted, IsFirstReady, is_ready_in, ranks_before, slots_of}
use Rattle.placement.proofs.FlagLaws.{same-slot, slot-within}
use Rattle.placement.proofs.LinkedNeeds.{all-met-by, was-made}
use Rattle.placement.proofs.QueueSteps.{place-is}
use Rattle.placement.proofs.ReadyFlags.{among-is}

-- what is read where nothing stands
abbrev pub no_rank : (Decision → Key) → Ranked
no_rank key = record { decision = Place 0; key = key (Place 0) }

module _ (c : Cluster) (valid : IsValid c) (ds : List Decision) (low : (d : Decision) → Contains ds d → leaf_of d < length c.leaves)
    (key : Decision → Key) (ranked : List Ranked) (s : AreSorted key ds ranked) (q : Queue) (is : IsQueue (links_in c ds) (length c.leaves * 2) q)
    (order : q.order.items ≡ slots_of ranked) (placed : (x : ℕ) → Contains q.order.items x → (p : ℕ) × (has_place q.places.items x p ≡ true))
    (made : List Decision) (flags : AreFlags (length c.leaves) (is_among made) q.made.items) where
  free-is : (d : Decision) → Contains ds d → is_free q.made.items q.counts.items (slot_of d) ≡ is_ready_in c ds made d
  free-is d there =
      let leaf = low d there in
      let m = was-made c valid ds low made q.made.items flags d leaf in
      let n = is.waits.counted (slot_of d) (slot-within (length c.leaves) d leaf) in
      let met = all-met-by c valid ds low made q.made.items flags d in
      let a = among-is ds d there in
      rw (m, n, met, a) refl

  long : length q.order.items ≡ length ranked
  long = ap length order ∙ length-map ranked (λ (x : Ranked). slot_of x.decision)

  pub slot-at : (p : ℕ) → p < length ranked → slice_index_or q.order.items p 0 ≡ slot_of (get_or ranked p (no_rank key)).decision
  slot-at p lt = ap (λ (xs : List ℕ). slice_index_or xs p 0) order ∙ get_or-map (λ (x : Ranked). slot_of x.decision) ranked p (no_rank key) 0 lt

  -- where a decision stands
  record Stands (d : Decision) : Type 0 where
    pub place : ℕ
    pub within : place < length ranked
    pub decides : (get_or ranked place (no_rank key)).decision ≡ d
    pub ready : slice_index_or q.ready place false ≡ is_ready_in c ds made d

  stands : (d : Decision) → Contains ds d → Stands d
  stands d there =
      let slot : Contains q.order.items (slot_of d) = subst (λ (xs : List ℕ). Contains xs (slot_of d)) (sym order)
      (in_map (λ (x : Ranked). slot_of x.decision) ranked (record { decision = d; key = key d }) (s.all d there)) in
      let at = placed (slot_of d) slot in
      let stood = is.places.there (slot_of d) at.0 (place-is q.places.items (slot_of d) at.0 at.1) in
      let in_order : at.0 < length q.order.items = stood.0 in
      let in_ranked : at.0 < length ranked = omega (arith, in_order, long) in
      let slots : slot_of (get_or ranked at.0 (no_rank key)).decision ≡ slot_of d = sym (slot-at at.0 in_ranked) ∙ stood.1 in
      let one : (get_or ranked at.0 (no_rank key)).decision ≡ d =
      same_decision (get_or ranked at.0 (no_rank key)).decision d (sym (same-slot (get_or ranked at.0 (no_rank key)).decision d)
      ∙ eq-eqb (slot_of (get_or ranked at.0 (no_rank key)).decision) (slot_of d) slots) in
      record {
        place = at.0;
        within = in_ranked;
        decides = one;
        ready = is.waits.readied at.0 in_order
            ∙ (ap (λ x. has_place q.places.items x at.0 && is_free q.made.items q.counts.items x) stood.1
            ∙ (ap (λ b. b && is_free q.made.items q.counts.items (slot_of d)) at.1 ∙ free-is d there));
      }

  pub none-ready-left : ((p : ℕ) → p < length q.ready → slice_index_or q.ready p false ≡ false) → (d : Decision) → Contains ds d → is_ready_in c ds made d ≡ false
  none-ready-left none d there =
      let at = stands d there in
      let within = at.within in
      let size = is.waits.ready_size in
      let l = long in
      sym at.ready ∙ none at.place (omega (arith, within, size, l))

  module _ (p : ℕ) (first : IsFirstPlace q.ready p) where
    abbrev pub next : Ranked
    next = get_or ranked p (no_rank key)

    pub next-within : p < length ranked
    next-within = let w = first.within in let size = is.waits.ready_size in let l = long in omega (arith, w, size, l)

    next-known : Contains ds next.decision × (next.key ≡ key next.decision)
    next-known = s.known next (Contains-get_or ranked p (no_rank key) next-within)

    pub next-leaf : leaf_of next.decision < length c.leaves
    next-leaf = low next.decision next-known.0

    next-ready : is_ready_in c ds made next.decision ≡ true
    next-ready =
        let w = next-within in
        let l = long in
        let both = sym (is.waits.readied p (omega (arith, w, l))) ∙ first.is in
        sym (free-is next.decision next-known.0) ∙ (ap (is_free q.made.items q.counts.items) (sym (slot-at p w))
        ∙ later (has_place q.places.items (slice_index_or q.order.items p 0) p) _ both)

    behind : (e : Decision) (at : Stands e) → p < at.place → e ≢ next.decision → goes_before key next.decision e ≡ true
    behind e at lower other =
        let there = get_or ranked at.place (no_rank key) in
        let known = s.known there (Contains-get_or ranked at.place (no_rank key) at.within) in
        let sorted : ranks_before there next ≡ false = s.sorted p at.place (no_rank key) lower at.within in
        let keyed : there ≡ record { decision = e; key = key e } =
        (λ i. record { decision = at.decides i; key = (known.1 ∙ ap key at.decides) i }) in
        let named : next ≡ record { decision = next.decision; key = key next.decision } = (λ i. record { decision = next.decision; key = next-known.1 i }) in
        let not_before : goes_before key e next.decision ≡ false =
        sym (ap (λ (x : Ranked). ranks_before x next) keyed ∙ ap (ranks_before (record { decision = e; key = key e })) named) ∙ sorted in
        before_some_way key e next.decision other not_before

    pub next-first : IsFirstReady (is_ready_in c ds made) key ds next.decision
    next-first = record {
      among = next-known.0;
      ready_now = next-ready;
      first = λ e there ready other.
          let at : Stands e = stands e there in
          elim (cases_lt p at.place) [
            | inl lower ↦ behind e at lower other
            | inr upper ↦ elim (cases_eq at.place p) [
              | inl same ↦ absurd (other (sym at.decides ∙ ap (λ k. (get_or ranked k (no_rank key)).decision) same))
              | inr apart ↦ absurd (false≢true (sym (first.first at.place (omega (arith, upper, apart))) ∙ (at.ready ∙ ready)))
            ]
          ];
    }
