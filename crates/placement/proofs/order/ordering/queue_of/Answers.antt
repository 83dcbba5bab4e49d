use Rattle.std.proofs.Common.{arith, ◌≡◌, ◌*◌, ℕ, List, Result, Ok, Err, IfOk, false, length, replicate, Contains, sym, ap, subst, true, ◌∙◌}
use Rattle.std.proofs.lemmas.List.{length-map}
use Rattle.std.proofs.lemmas.Result.{IfOk-at_ok, IfOk-weaker}
use Rattle.lemmas.proofs.Members.{of_map}
use Rattle.edges.specs.declared.edge.Edge.{Edge}
use Rattle.edges.specs.Loops.{EndsWithin}
use Rattle.placement.specs.declared.order.queue.Queue.{Queue}
use Rattle.placement.specs.declared.order.ranked_decisions.Ranked.{Ranked}
use Rattle.placement.specs.Inner.Flags.{slot_of}
use Rattle.placement.specs.Inner.Links.{links_in}
use Rattle.placement.specs.Inner.Queueing.{IsQueue, has_place}
use Rattle.placement.specs.Inner.Turns.{slots_of}
use Rattle.placement.proofs.FlagLaws.{slot-within}
use Rattle.placement.proofs.LinkedNeeds.{links-within}
use Rattle.placement.proofs.order.ordering.queue_of.Goals as goal

pub slots_of-requires : goal.slots_of-requires
slots_of-requires c = λ x among.
    let set = c.args.set.now in
    let s = c.requires.sorted.1 in
    let low = set.within x.decision (s.known x among).0 in
    let few = set.limits.leaves in
    omega (arith, low, few)

pub new-requires-clause-few : goal.new-requires-clause-few
new-requires-clause-few c =
    let few = c.args.set.now.few in
    let size = c.requires.sorted.1.size in
    let slots : c.in_ok-links-2.slots.items ≡ slots_of c.args.sorted.now = IfOk-at_ok _ c.in_ok-links-2.ensures.1 c.slots_of.ensures in
    let long : length c.in_ok-links-2.slots.items ≡ length c.args.sorted.now = ap length slots ∙ length-map c.args.sorted.now (λ (x : Ranked). slot_of x.decision) in
    omega (arith, few, size, long)

pub new-requires-clause-ends : goal.new-requires-clause-ends
new-requires-clause-ends c =
    let set = c.args.set.now in
    let cluster = set.cluster.now in
    let links : c.deref.result.now ≡ links_in cluster set.list.items
    = c.deref.ensures.value ∙ (ap (λ v. v.items) c.in_ok-links-2.ensures.0 ∙ c.in_ok-links.ensures) in
    let count : length cluster.leaves * 2 ≡ 2 * c.len.result = omega arith in
    subst (λ k. EndsWithin k c.deref.result.now) count
    (subst (λ es. EndsWithin (length cluster.leaves * 2) es) (sym links) (links-within cluster c.requires.valid set.list.items set.within))

pub new-requires-clause-within : goal.new-requires-clause-within
new-requires-clause-within c = λ x among.
    let set = c.args.set.now in
    let leaves = length set.cluster.now.leaves in
    let slots : c.in_ok-links-2.slots.items ≡ slots_of c.args.sorted.now = IfOk-at_ok _ c.in_ok-links-2.ensures.1 c.slots_of.ensures in
    let m = of_map (λ (y : Ranked). slot_of y.decision) c.args.sorted.now x (subst (λ (xs : List ℕ). Contains xs x) slots among) in
    let low = slot-within leaves m.source.decision (set.within m.source.decision (c.requires.sorted.1.known m.source m.among).0) in
    let is = m.gives in
    let count : leaves * 2 ≡ 2 * c.len.result = omega arith in
    omega (arith, low, is, count)

pub returns-clause-queue : goal.returns-clause-queue
returns-clause-queue c =
    let set = c.args.set.now in
    let cluster = set.cluster.now in
    let links : c.deref.result.now ≡ links_in cluster set.list.items
    = c.deref.ensures.value ∙ (ap (λ v. v.items) c.in_ok-links-2.ensures.0 ∙ c.in_ok-links.ensures) in
    let count : 2 * c.len.result ≡ length cluster.leaves * 2 = omega arith in
    IfOk-weaker c.new.result _ _ (λ queue is. subst (λ k. IsQueue (links_in cluster set.list.items) k queue) count
    (subst (λ (es : List Edge). IsQueue es (2 * c.len.result) queue) links is)) c.new.ensures.queue

pub returns-clause-order : goal.returns-clause-order
returns-clause-order c =
    let slots : c.in_ok-links-2.slots.items ≡ slots_of c.args.sorted.now = IfOk-at_ok _ c.in_ok-links-2.ensures.1 c.slots_of.ensures in
    IfOk-weaker c.new.result _ _ (λ queue is. is ∙ slots) c.new.ensures.order

-- each has a place in the queue
abbrev HavePlaces : List ℕ → Queue → Type 0
HavePlaces xs q = (x : ℕ) → Contains xs x → (p : ℕ) × (has_place q.places.items x p ≡ true)

pub returns-clause-placed : goal.returns-clause-placed
returns-clause-placed c = both c.new.result c.in_ok-links-2.slots.items c.new.ensures.order c.new.ensures.all
  where
    both : {E : Type 0} (made : Result Queue E) (slots : List ℕ) → IfOk made (λ q. q.order.items ≡ slots) → IfOk made (HavePlaces slots)
        → IfOk made (λ q. HavePlaces q.order.items q)
    both (Ok q) slots same is = subst (λ xs. HavePlaces xs q) (sym same) is
    both (Err e) slots same is = tt

pub returns-clause-made : goal.returns-clause-made
returns-clause-made c =
    let count : 2 * c.len.result ≡ length c.args.set.now.cluster.now.leaves * 2 = omega arith in
    IfOk-weaker c.new.result _ _ (λ queue is. is ∙ ap (λ k. replicate k false) count) c.new.ensures.made
