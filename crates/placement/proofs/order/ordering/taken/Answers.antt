use Rattle.std.proofs.Common.{rules, arith, ◌≡◌, ◌<◌, ◌*◌, ◌++◌, ◌∷◌, [], ◌&&◌, ◌||◌, ℕ, List, MatchOption, Option, true, false, not, count_by, get_or, length, slice_index_or, slice_set, Contains, refl, sym, ap, subst, ◌∙◌}
use Rattle.cluster_types.specs.declared.placement.Decision.{Decision}
use Rattle.cluster_types.specs.Decisions.{is_among, is_same_decision, leaf_of}
use Rattle.placement.specs.declared.order.ranked_decisions.Ranked.{Ranked}
use Rattle.placement.specs.Inner.Flags.{AreFlags, slot_of}
use Rattle.placement.specs.Inner.Links.{links_in}
use Rattle.placement.specs.Inner.Queueing.{IsFirstPlace, IsNextPlace, has_place}
use Rattle.placement.specs.Inner.Turns.{WereMade, none_made, one_more}
use Rattle.placement.proofs.FlagLaws.{none-raised, raised, slot-within}
use Rattle.placement.proofs.OrderSteps.{next-first, next-leaf, next-within, no_rank, none-ready-left, slot-at}
use Rattle.placement.proofs.ReadyFlags.{among-more, fewer-left}
use Rattle.placement.proofs.order.ordering.taken.Goals as goal

pub loop-place-init : goal.loop-place-init
loop-place-init c =
    let set = c.args.set.now in
    let leaves = length set.cluster.now.leaves in
    let none : c.in_ok-order.order.items ≡ [] = search rules in
    record {
      queue = c.requires.queue;
      order = c.requires.order;
      placed = c.requires.placed;
      flags = subst (λ xs. AreFlags leaves (is_among xs) c.args.queue.now.made.items) (sym none)
          (subst (AreFlags leaves (λ d. false)) (sym c.requires.made) (none-raised leaves (leaves * 2) refl));
      made = λ key is. subst (WereMade set.cluster.now set.list.items key) (sym none) none_made;
    }

pub take-requires : goal.take-requires
take-requires c =
    (links_in c.args.set.now.cluster.now c.args.set.now.list.items, length c.args.set.now.cluster.now.leaves * 2, c.loop-place.invariant.queue)

pub decision_at-requires : goal.decision_at-requires
decision_at-requires c =
    let set = c.args.set.now in
    let l = c.loop-place in
    let key = c.requires.sorted.0 in
    let first : IsFirstPlace l.queue.ready c.in-Some.place = subst (IsNextPlace l.queue.ready) c.in-Some.is c.take.ensures.place in
    next-within set.cluster.now c.requires.valid set.list.items set.within key c.args.sorted.now c.requires.sorted.1 l.queue l.invariant.queue l.invariant.order l.invariant.placed
    l.order.items l.invariant.flags c.in-Some.place first

pub returns-in-None : goal.returns-in-None
returns-in-None c = λ key is.
    let set = c.args.set.now in
    let l = c.loop-place in
    record {
      made = l.invariant.made key is;
      none_left = none-ready-left set.cluster.now c.requires.valid set.list.items set.within key c.args.sorted.now is l.queue l.invariant.queue l.invariant.order l.invariant.placed
          l.order.items l.invariant.flags (subst (IsNextPlace l.queue.ready) c.in-None.is c.take.ensures.place);
    }

pub loop-place-smaller : goal.loop-place-smaller
loop-place-smaller c =
    let set = c.args.set.now in
    let cluster = set.cluster.now in
    let ds = set.list.items in
    let l = c.loop-place in
    let key = c.requires.sorted.0 in
    let p = c.in-Some.place in
    let next : Ranked = get_or c.args.sorted.now p (no_rank key) in
    let first : IsFirstPlace l.queue.ready p = subst (IsNextPlace l.queue.ready) c.in-Some.is c.take.ensures.place in
    let is : c.decision_at.result ≡ next.decision = c.decision_at.ensures (no_rank key) in
    let items : c.push.new.self.items ≡ l.order.items ++ c.decision_at.result ∷ [] = search rules in
    subst (λ xs. count_by (λ e. not (is_among xs e)) ds < count_by (λ e. not (is_among l.order.items e)) ds)
    (sym (items ∙ ap (λ (x : Decision). l.order.items ++ x ∷ []) is))
    (fewer-left cluster ds l.order.items key next.decision
    (next-first cluster c.requires.valid ds set.within key c.args.sorted.now c.requires.sorted.1 l.queue l.invariant.queue l.invariant.order l.invariant.placed l.order.items l.invariant.flags p first))

pub loop-place-preserved : goal.loop-place-preserved
loop-place-preserved c =
    let set = c.args.set.now in
    let cluster = set.cluster.now in
    let leaves = length cluster.leaves in
    let ds = set.list.items in
    let l = c.loop-place in
    let q = l.queue in
    let after = c.take.new.self in
    let p = c.in-Some.place in
    let first : IsFirstPlace q.ready p = subst (IsNextPlace q.ready) c.in-Some.is c.take.ensures.place in
    let d = c.decision_at.result in
    let items : c.push.new.self.items ≡ l.order.items ++ d ∷ [] = search rules in
    let key = c.requires.sorted.0 in
    let s = c.requires.sorted.1 in
    let within = next-within cluster c.requires.valid ds set.within key c.args.sorted.now s q l.invariant.queue l.invariant.order l.invariant.placed l.order.items l.invariant.flags p first in
    let slot : slice_index_or q.order.items p 0 ≡ slot_of d =
    slot-at cluster c.requires.valid ds set.within key c.args.sorted.now s q l.invariant.queue l.invariant.order l.invariant.placed l.order.items l.invariant.flags p within
    ∙ ap slot_of (sym (c.decision_at.ensures (no_rank key))) in
    let low : leaf_of d < leaves =
    subst (λ (x : Decision). leaf_of x < leaves) (sym (c.decision_at.ensures (no_rank key)))
    (next-leaf cluster c.requires.valid ds set.within key c.args.sorted.now s q l.invariant.queue l.invariant.order l.invariant.placed l.order.items l.invariant.flags p first) in
    let size = l.invariant.flags.size in
    let inside : slot_of d < length q.made.items = (let w = slot-within leaves d low in omega (arith, w, size)) in
    let made : after.made.items ≡ slice_set q.made.items (slot_of d) true =
    subst (λ (o : Option ℕ). MatchOption o (after.made.items ≡ q.made.items) (λ k. after.made.items ≡ slice_set q.made.items (slice_index_or q.order.items k 0) true)) c.in-Some.is c.take.ensures.made
    ∙ ap (λ k. slice_set q.made.items k true) slot in
    record {
      queue = c.take.ensures.queue (links_in cluster ds) (leaves * 2) l.invariant.queue;
      order = c.take.ensures.order ∙ l.invariant.order;
      placed = λ x among.
          let was = l.invariant.placed x (subst (λ (xs : List ℕ). Contains xs x) c.take.ensures.order among) in
          (was.0, ap (λ (ps : List (Option ℕ)). has_place ps x was.0) c.take.ensures.places ∙ was.1);
      flags = subst (λ xs. AreFlags leaves (is_among xs) after.made.items) (sym items)
          (among-more leaves l.order.items d after.made.items
          (subst (AreFlags leaves (λ e. is_among l.order.items e || (true && is_same_decision d e))) (sym made)
          (raised leaves (is_among l.order.items) q.made.items l.invariant.flags d true refl inside)));
      made = λ other is.
          let same : d ≡ (get_or c.args.sorted.now p (no_rank other)).decision = c.decision_at.ensures (no_rank other) in
          subst (WereMade cluster ds other) (sym (items ∙ ap (λ (x : Decision). l.order.items ++ x ∷ []) same))
          (one_more l.order.items (get_or c.args.sorted.now p (no_rank other)).decision (l.invariant.made other is)
          (next-first cluster c.requires.valid ds set.within other c.args.sorted.now is q l.invariant.queue l.invariant.order l.invariant.placed l.order.items l.invariant.flags p first));
    }
