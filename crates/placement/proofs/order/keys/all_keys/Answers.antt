use Rattle.std.proofs.Common.{rules, ◌≡◌, ◌<◌, ◌≤◌, ◌++◌, ◌∷◌, [], get_or, length, map, take, sym, ap, ◌∙◌}
use Rattle.std.proofs.lemmas.List.{get_or_read, map-append, take_all, take_more}
use Rattle.cluster_types.specs.declared.placement.Decision.TheVariants.{Place}
use Rattle.placement.specs.Inner.DecisionLists.{compared_key}
use Rattle.placement.proofs.order.keys.all_keys.Goals as goal

pub loop-position-preserved : goal.loop-position-preserved
loop-position-preserved c =
    let l = c.loop-position in
    let set = c.args.set.now in
    let ds = set.list.items in
    let f = compared_key set.cluster.now c.args.states.now c.args.scores.now in
    let low : l.position < length ds = search rules in
    let items : c.push.new.self.items ≡ l.keys.items ++ c.key_of-key.result ∷ [] = search rules in
    let is : c.key_of-key.result ≡ f (get_or ds l.position (Place 0))
    = c.key_of-key.ensures ∙ ap f (get_or_read ds l.position c.index.result.now low c.index.ensures (Place 0)) in
    items ∙ (ap (λ k. l.keys.items ++ k ∷ []) is ∙ (ap (λ ks. ks ++ f (get_or ds l.position (Place 0)) ∷ []) l.invariant
    ∙ sym (ap (map f) (take_more ds l.position (Place 0) low) ∙ map-append f (take l.position ds) (get_or ds l.position (Place 0) ∷ []))))

pub returns : goal.returns
returns c =
    let l = c.loop-position in
    let set = c.args.set.now in
    let ds = set.list.items in
    let all : take l.position ds ≡ ds = take_all l.position ds (let high : length ds ≤ l.position = search rules in high) in
    l.invariant ∙ ap (map (compared_key set.cluster.now c.args.states.now c.args.scores.now)) all
