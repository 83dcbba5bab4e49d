use Rattle.std.proofs.Common.{rules, ◌≡◌, ◌<◌, ◌≤◌, ◌++◌, ◌∷◌, [], get_or, length, take, sym, ap, ◌∙◌}
use Rattle.std.proofs.lemmas.List.{get_or_read, map-append, take_all, take_more}
use Rattle.cluster_types.specs.declared.placement.Decision.{Decision}
use Rattle.cluster_types.specs.declared.placement.Decision.TheVariants.{Place}
use Rattle.placement.specs.declared.order.ranked_decisions.Ranked.{Ranked}
use Rattle.placement.specs.Inner.Turns.{ranked_by}
use Rattle.placement.proofs.ReadKeys.{key-at}
use Rattle.placement.proofs.order.ranked_decisions.all_ranked.Goals as goal

pub loop-position-preserved : goal.loop-position-preserved
loop-position-preserved c = λ key are.
    let l = c.loop-position in
    let set = c.args.set.now in
    let ds = set.list.items in
    let low : l.position < length ds = search rules in
    let d = get_or ds l.position (Place 0) in
    let one : Ranked = record { decision = c.index.result.now; key = c.index-keys-position.result } in
    let items : c.push.new.self.items ≡ l.ranked.items ++ one ∷ [] = search rules in
    let decision : c.index.result.now ≡ d = get_or_read ds l.position c.index.result.now low c.index.ensures (Place 0) in
    let keyed : c.index-keys-position.result ≡ key d = c.index-keys-position.is ∙ key-at key ds c.args.keys.now l.position (Place 0) c.index-keys-position.result are low in
    let is : one ≡ record { decision = d; key = key d } = λ i. record { decision = decision i; key = keyed i } in
    items ∙ (ap (λ r. l.ranked.items ++ r ∷ []) is ∙ (ap (λ rs. rs ++ record { decision = d; key = key d } ∷ []) (l.invariant key are)
    ∙ sym (ap (ranked_by key) (take_more ds l.position (Place 0) low) ∙ map-append (λ (e : Decision). record { decision = e; key = key e }) (take l.position ds) (d ∷ []))))

pub returns : goal.returns
returns c = λ key are.
    let l = c.loop-position in
    let ds = c.args.set.now.list.items in
    let all : take l.position ds ≡ ds = take_all l.position ds (let high : length ds ≤ l.position = search rules in high) in
    l.invariant key are ∙ ap (ranked_by key) all
