use Rattle.std.proofs.Common.{length, refl, sym, ◌∙◌, arith}
use Rattle.score.specs.Total.{minus_infinity}
use Rattle.score.specs.NodeSet.{has}
use Rattle.placement.specs.OwnRows.{banned_by}
use Rattle.placement.specs.Locations.{is_unnamed}
use Rattle.placement.proofs.EachNode.{put-each}
use Rattle.placement.proofs.OwnTerms.{few-banned, small-own}
use Rattle.placement.proofs.TermRows.{row-length, row-room}
use Rattle.placement.proofs.totals.own.put_opt_in.Goals as goal

pub put_each-requires-clause-nodes : goal.put_each-requires-clause-nodes
put_each-requires-clause-nodes c = c.len-nodes.ensures ∙ sym (row-length (length c.args.cluster.now.nodes) _ c.args.row c.requires.row)

pub put_each-requires-clause-room : goal.put_each-requires-clause-room
put_each-requires-clause-room c =
    let cluster = c.args.cluster.now in
    row-room (length cluster.nodes) _ c.args.row c.requires.row
    (λ n low. let a = few-banned cluster c.args.states.now c.args.leaf n in
    omega (arith, a, small-own cluster c.args.leaf c.requires.valid.limits))

pub returns : goal.returns
returns c =
    let cluster = c.args.cluster.now in
    let states = c.args.states.now in
    put-each (length cluster.nodes) c.len-nodes.result (has c.unnamed_nodes-unnamed.result) (is_unnamed cluster states.moment c.args.leaf) minus_infinity minus_infinity
    (banned_by cluster states c.args.leaf) c.args.row c.put_each.new.row c.len-nodes.ensures
    (λ n low. c.unnamed_nodes-unnamed.ensures n low)
    refl c.put_each.ensures.terms c.requires.row
