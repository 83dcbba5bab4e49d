use Rattle.std.proofs.Common.{rules, ◌≡◌, ◌+◌, ◌<◌, ◌≤◌, if◌then◌else◌, Option, Some, None, get_or, length, take, ap, subst, ◌∙◌}
use Rattle.std.proofs.lemmas.List.{get_or_read, take_all}
use Rattle.cluster_types.specs.declared.placement.Decision.{Decision}
use Rattle.cluster_types.specs.declared.placement.Decision.TheVariants.{Place}
use Rattle.cluster_types.specs.Decisions.{Key, is_same_decision}
use Rattle.placement.specs.Inner.Lending.{AreKeys, keys_among}
use Rattle.placement.proofs.ReadKeys.{key-at}
use Rattle.placement.proofs.SlotLaws.{key-more, keys-same}
use Rattle.placement.proofs.order.key_slots.own_keys.Goals as goal

pub loop-position-init : goal.loop-position-init
loop-position-init c = λ key are.
    let none : AreKeys c.len.result (λ d. None) c.in_ok-slots.slots.items = search rules in
    subst (λ k. AreKeys k (λ d. None) c.in_ok-slots.slots.items) c.len.ensures none

pub loop-position-preserved : goal.loop-position-preserved
loop-position-preserved c = λ key are.
    let l = c.loop-position in
    let set = c.args.set.now in
    let leaves = length set.cluster.now.leaves in
    let ds = set.list.items in
    let low : l.position < length ds = search rules in
    let d = get_or ds l.position (Place 0) in
    let decision : c.index.result.now ≡ d = get_or_read ds l.position c.index.result.now low c.index.ensures (Place 0) in
    let keyed : c.index-keys-position.result ≡ key d = c.index-keys-position.is ∙ key-at key ds c.args.keys.now l.position (Place 0) c.index-keys-position.result are low in
    let so_far : Decision → Option Key = keys_among (take l.position ds) key in
    keys-same leaves (λ e. if is_same_decision c.index.result.now e then Some c.index-keys-position.result else so_far e) c.set_key.new.slots.items
    (c.set_key.ensures leaves so_far (l.invariant key are)) (keys_among (take (l.position + 1) ds) key)
    (λ e within. ap (λ (x : Decision). if is_same_decision x e then Some c.index-keys-position.result else so_far e) decision
    ∙ (ap (λ (k : Key). if is_same_decision d e then Some k else so_far e) keyed ∙ key-more key ds l.position (Place 0) low e))

pub returns : goal.returns
returns c = λ key are.
    let l = c.loop-position in
    let set = c.args.set.now in
    let ds = set.list.items in
    let all : take l.position ds ≡ ds = take_all l.position ds (let high : length ds ≤ l.position = search rules in high) in
    subst (λ es. AreKeys (length set.cluster.now.leaves) (keys_among es key) l.slots.items) all (l.invariant key are)
