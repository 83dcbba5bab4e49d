use Rattle.std.proofs.Common.{rules, ◌≡◌, if◌then◌else◌, refl, sym, ap, ◌∙◌}
use Rattle.std.specs.Int.{int_max}
use Rattle.score.specs.NodeSet.{has}
use Rattle.placement.specs.Scores.{score_in}
use Rattle.placement.proofs.Greatest.{greatest-more}
use Rattle.placement.proofs.order.keys.greatest_among.Goals as goal

pub loop-node-preserved : goal.loop-node-preserved
loop-node-preserved c =
    let l = c.loop-node in
    let f = score_in c.args.scores.now c.args.decision in
    let p = has c.args.among.now in
    let made : c.greater_if-greatest.result ≡ (if p l.node then int_max l.greatest (f l.node) else l.greatest) = search rules in
    made ∙ (ap (λ g. if p l.node then int_max g (f l.node) else g) l.invariant ∙ sym (greatest-more f p l.node (p l.node) refl))
