use Rattle.std.proofs.Common.{length, sym, ◌∙◌, arith}
use Rattle.placement.specs.OwnRows.{own_by}
use Rattle.placement.proofs.OwnTerms.{few-own, small-own}
use Rattle.placement.proofs.TermRows.{row-length, row-room}
use Rattle.account_text.proofs.joining.alone.Goals as goal

pub copy_of-requires-clause-row : goal.copy_of-requires-clause-row
copy_of-requires-clause-row c = row-length (length c.args.own.now.cluster.now.nodes) _ c.row.result.now c.row.ensures ∙ sym c.len.ensures

pub copy_of-requires-clause-roomy : goal.copy_of-requires-clause-roomy
copy_of-requires-clause-roomy c =
    let own = c.args.own.now in
    let cluster = own.cluster.now in
    row-room (length cluster.nodes) (own_by cluster own.states.now c.args.leaf) c.row.result.now c.row.ensures
    (λ n low. let a = few-own cluster own.states.now c.args.leaf n in let b = small-own cluster c.args.leaf own.limits in omega (arith, a, b))
