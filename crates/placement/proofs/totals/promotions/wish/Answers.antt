use Rattle.std.proofs.Common.{rules, ◌≡◌, None, pos, neg_ℤ, slice_get, ◌∙◌}
use Rattle.std.specs.Prelude.{unwrap_or}
use Rattle.placement.proofs.FirstSaid.{wish-kept}
use Rattle.placement.proofs.totals.promotions.wish.Goals as goal

pub returns : goal.returns
returns c = λ promotions are.
    let is : c.unwrap_or.result ≡ unwrap_or (unwrap_or (slice_get c.args.said.now c.cell_place-place.result) None) (neg_ℤ (pos 1)) = search rules in
    is ∙ wish-kept c.args.cluster.now promotions c.args.said.now c.args.leaf c.args.node c.len.result c.cell_place-place.result are c.requires.leaf c.requires.node c.len.ensures c.cell_place-place.ensures
