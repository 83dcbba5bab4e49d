use Rattle.std.proofs.Common.{rules, ◌≡◌, ◌<◌, ◌≤◌, ◌++◌, ◌∷◌, [], if◌then◌else◌, Option, Bool, Some, None, Contains, get_or, length, map, take, unwrap_or, sym, ap, ◌∙◌}
use Rattle.std.proofs.lemmas.List.{get_or_read, map-append, take_all, take_more}
use Rattle.std.proofs.lemmas.List.Elements.{Contains-get_or}
use Rattle.cluster_types.specs.declared.placement.Decision.TheVariants.{Place}
use Rattle.cluster_types.specs.Decisions.{Key}
use Rattle.placement.specs.Inner.EffectiveKeys.{effective_in}
use Rattle.placement.specs.Inner.Lending.{AreKeys, slot_key_at, keys_among}
use Rattle.placement.proofs.ReadyFlags.{among-is}
use Rattle.placement.proofs.SlotLaws.{kept-is}
use Rattle.placement.proofs.order.effective.effective_keys.Goals as goal

pub loop-position-preserved : goal.loop-position-preserved
loop-position-preserved c = λ key are.
    let l = c.loop-position in
    let set = c.args.set.now in
    let leaves = length set.cluster.now.leaves in
    let ds = set.list.items in
    let f = effective_in set.cluster.now ds key in
    let low : l.position < length ds = search rules in
    let d = get_or ds l.position (Place 0) in
    let slots = c.in_ok-lent.lent.items in
    let there : Contains ds d = Contains-get_or ds l.position (Place 0) low in
    let lent : AreKeys leaves (keys_among ds f) slots = c.in_ok-lent.ensures key are in
    let kept : c.key_at.result ≡ Some (f d) = c.key_at.ensures ∙ (ap (λ ss. slot_key_at ss c.index.result.now) c.deref.ensures.value
    ∙ (ap (slot_key_at slots) (get_or_read ds l.position c.index.result.now low c.index.ensures (Place 0))
    ∙ (kept-is leaves (keys_among ds f) slots lent d (set.within d there) ∙ ap (λ (b : Bool). if b then Some (f d) else None) (among-is ds d there)))) in
    let is : c.unwrap_or-key.result ≡ f d = c.unwrap_or-key.ensures ∙ ap (λ (o : Option Key). unwrap_or o c.index-keys-position.result) kept in
    let items : c.push.new.self.items ≡ l.all.items ++ c.unwrap_or-key.result ∷ [] = search rules in
    items ∙ (ap (λ k. l.all.items ++ k ∷ []) is ∙ (ap (λ ks. ks ++ f d ∷ []) (l.invariant key are)
    ∙ sym (ap (map f) (take_more ds l.position (Place 0) low) ∙ map-append f (take l.position ds) (d ∷ []))))

pub returns : goal.returns
returns c = λ key are.
    let l = c.loop-position in
    let set = c.args.set.now in
    let ds = set.list.items in
    let all : take l.position ds ≡ ds = take_all l.position ds (let high : length ds ≤ l.position = search rules in high) in
    l.invariant key are ∙ ap (map (effective_in set.cluster.now ds key)) all
