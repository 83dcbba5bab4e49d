use Rattle.std.proofs.Common.{◌≡◌, ◌+◌, ◌++◌, ◌∷◌, [], suc, take, sym, ap, subst, ◌∙◌, arith}
use Rattle.std.proofs.Math.Seq.{take-suc}
use Rattle.placement.specs.Promotions.{AreSaid}
use Rattle.placement.proofs.totals.promotions.first_said.Goals as goal

pub loop-promotion-preserved : goal.loop-promotion-preserved
loop-promotion-preserved c =
    let l = c.loop-promotion in
    let items = c.args.promotions.now in
    let promotion = c.promotion-item.result in
    let on : suc l.promotion-index ≡ l.promotion-index + 1 = omega arith in
    let more : take (l.promotion-index + 1) items ≡ take l.promotion-index items ++ promotion ∷ [] =
    ap (λ k. take k items) (sym on) ∙ (take-suc items l.promotion-index promotion c.loop-promotion-test.true ∙ ap (λ p. take l.promotion-index items ++ p ∷ []) (sym c.promotion-item.is)) in
    subst (λ ps. AreSaid c.args.cluster.now ps c.say.new.said.items) (sym more) (c.say.ensures (take l.promotion-index items) l.invariant)
