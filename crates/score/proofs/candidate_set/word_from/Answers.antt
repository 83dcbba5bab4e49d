use Rattle.std.proofs.Common.{◌≡◌, ◌+◌, pos, not, ap, sym, ◌∙◌, arith}
use Rattle.std.specs.Int.{is_negative}
use Rattle.std.proofs.lemmas.List.{get_or_default}
use Rattle.score.specs.Choice.{points_at, has_enough}
use Rattle.score.specs.NodeSet.{is_set}
use Rattle.score.proofs.Words.{bit_is, more}
use Rattle.score.proofs.candidate_set.word_from.Goals as goal

pub loop-node-preserved : goal.loop-node-preserved
loop-node-preserved c =
    let l = c.loop-node in
    let totals = c.args.totals.now in
    let total : c.index-totals-node.result ≡ points_at totals l.node = c.index-totals-node.is ∙ get_or_default totals l.node c.index-totals-node.result (pos 0) (omega (arith, c.requires.end, c.loop-node-test.true)) in
    let is = bit_is c.index-totals-node.result c.bit_of.result c.bit_of.ensures in
    more totals c.args.first l.node l.word c.bit_of.result 1 (omega (arith, c.requires.first, l.auto.node)) (omega (arith, c.requires.few, c.loop-node-test.true)) is.0
    (λ k low.
    let none : k ≡ 0 = omega (arith, low) in
    let same : l.node + k ≡ l.node = omega (arith, none) in
    ap (is_set c.bit_of.result) none ∙ is.1 ∙ ap (λ t. not (is_negative t)) total ∙ ap (has_enough totals) (sym same)) l.invariant
