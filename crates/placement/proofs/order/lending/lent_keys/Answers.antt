use Rattle.std.proofs.Common.{rules, ◌≡◌, ◌+◌, ℕ, suc, fold, length, sym, ap, subst, ◌∙◌, arith}
use Rattle.std.specs.List.Sorted.{IsPermutation}
use Rattle.std.proofs.lemmas.List.Sorted.{Contains-permutation, IsPermutation-sym}
use Rattle.placement.specs.Inner.EffectiveKeys.{effective_in}
use Rattle.placement.specs.Inner.Lending.{AreKeys, keys_among, lent_along}
use Rattle.placement.specs.Inner.Links.{links_in}
use Rattle.placement.proofs.LentKeys.{Turned, all-lent, first-turn, settled, turned}
use Rattle.placement.proofs.order.lending.lent_keys.Goals as goal

pub loop-turn-init : goal.loop-turn-init
loop-turn-init c = λ key are.
    let set = c.args.set.now in
    first-turn set.cluster.now set.list.items key c.in_ok-slots.slots.items (c.in_ok-slots.ensures key are)

pub loop-turn-preserved : goal.loop-turn-preserved
loop-turn-preserved c = λ key are.
    let l = c.loop-turn in
    let set = c.args.set.now in
    let cluster = set.cluster.now in
    let ds = set.list.items in
    let links = c.in_ok-links.links.items in
    let same : IsPermutation (links_in cluster ds) links = c.in_ok-links.ensures in
    let read : c.deref.result.now ≡ links = c.deref.ensures.value in
    let new : c.pass-raised.new.slots.items ≡ fold lent_along l.slots.items links
    = c.pass-raised.ensures.slots ∙ ap (fold lent_along l.slots.items) read in
    let next : Turned cluster ds key (suc l._turn) (fold lent_along l.slots.items links)
    = turned cluster ds key c.requires.valid set.within links
    (λ e there. Contains-permutation links (links_in cluster ds) e (IsPermutation-sym (links_in cluster ds) links same) there)
    (λ e there. Contains-permutation (links_in cluster ds) links e same there) l._turn l.slots.items (l.invariant key are) in
    let on : suc l._turn ≡ l._turn + 1 = omega arith in
    subst (λ (k : ℕ). Turned cluster ds key k c.pass-raised.new.slots.items) on
    (subst (Turned cluster ds key (suc l._turn)) (sym new) next)

pub returns-then-not-raised : goal.returns-then-not-raised
returns-then-not-raised c = λ key are.
    let l = c.loop-turn in
    let set = c.args.set.now in
    let cluster = set.cluster.now in
    let ds = set.list.items in
    let links = c.in_ok-links.links.items in
    let same : IsPermutation (links_in cluster ds) links = c.in_ok-links.ensures in
    let read : c.deref.result.now ≡ links = c.deref.ensures.value in
    let new : c.pass-raised.new.slots.items ≡ fold lent_along l.slots.items links
    = c.pass-raised.ensures.slots ∙ ap (fold lent_along l.slots.items) read in
    let none : c.pass-raised.new.slots.items ≡ l.slots.items = c.pass-raised.ensures.same c.if-not-raised.true in
    let last : Turned cluster ds key (length ds) l.slots.items
    = settled cluster ds key c.requires.valid set.within links
    (λ e there. Contains-permutation links (links_in cluster ds) e (IsPermutation-sym (links_in cluster ds) links same) there)
    (λ e there. Contains-permutation (links_in cluster ds) links e same there) l._turn l.slots.items (l.invariant key are) (sym new ∙ none) (length ds) in
    subst (AreKeys (length cluster.leaves) (keys_among ds (effective_in cluster ds key))) (sym none)
    (all-lent cluster ds key l.slots.items last)

pub returns : goal.returns
returns c = λ key are.
    let l = c.loop-turn in
    let set = c.args.set.now in
    let cluster = set.cluster.now in
    let ds = set.list.items in
    let all : l._turn ≡ length ds = search rules in
    all-lent cluster ds key l.slots.items (subst (λ (k : ℕ). Turned cluster ds key k l.slots.items) all (l.invariant key are))
