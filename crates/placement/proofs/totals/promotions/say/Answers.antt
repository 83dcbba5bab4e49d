use Rattle.std.proofs.Common.{rules, ◌≡◌, ◌+◌, ◌*◌, false, true, length, ap, ◌∙◌, arith}
use Rattle.placement.specs.Inner.Promotions.{is_vacant}
use Rattle.placement.proofs.FirstSaid.{freed, say-again, say-here, say-nowhere, taken}
use Rattle.placement.proofs.totals.promotions.say.Goals as goal

pub returns-then-promotion-nodes : goal.returns-then-promotion-nodes
returns-then-promotion-nodes c = λ before are.
    say-nowhere c.args.cluster.now before c.args.promotion.now c.args.said.now.items are (omega (arith, c.if-promotion-nodes.true, c.len-nodes.ensures))

pub returns-then-is_free : goal.returns-then-is_free
returns-then-is_free c = λ before are.
    let p = c.args.promotion.now in
    let at : c.cell_place-place.result ≡ p.leaf * length c.args.cluster.now.nodes + p.node =
    c.cell_place-place.ensures ∙ ap (λ k. p.leaf * k + p.node) c.len-nodes.ensures in
    let free : is_vacant c.args.said.now.items c.cell_place-place.result ≡ true = search rules in
    say-here c.args.cluster.now before p c.args.said.now.items are c.cell_place-place.result at (omega (arith, c.if-promotion-nodes.false, c.len-nodes.ensures))
    (freed c.args.said.now.items c.cell_place-place.result free)

pub returns-else-is_free : goal.returns-else-is_free
returns-else-is_free c = λ before are.
    let p = c.args.promotion.now in
    let at : c.cell_place-place.result ≡ p.leaf * length c.args.cluster.now.nodes + p.node =
    c.cell_place-place.ensures ∙ ap (λ k. p.leaf * k + p.node) c.len-nodes.ensures in
    let full : is_vacant c.args.said.now.items c.cell_place-place.result ≡ false = search rules in
    say-again c.args.cluster.now before p c.args.said.now.items are c.cell_place-place.result at (omega (arith, c.if-promotion-nodes.false, c.len-nodes.ensures))
    (taken c.args.said.now.items c.cell_place-place.result full)
