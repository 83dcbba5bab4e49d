use Rattle.std.proofs.Common.{rules, length, sym, ◌∙◌, arith}
use Rattle.score.specs.NodeSet.{has}
use Rattle.placement.specs.OwnRows.{given_by, is_active_by, stickiness_of}
use Rattle.cluster_types.specs.Terms.{is_started}
use Rattle.placement.proofs.Given.{few-given}
use Rattle.placement.proofs.EachNode.{put-each}
use Rattle.placement.proofs.OwnTerms.{small-own}
use Rattle.placement.proofs.TermRows.{row-length, row-room}
use Rattle.placement.proofs.totals.own.put_stickiness.Goals as goal

pub put_each-requires-clause-nodes : goal.put_each-requires-clause-nodes
put_each-requires-clause-nodes c = c.len-nodes.ensures ∙ sym (row-length (length c.args.cluster.now.nodes) _ c.args.row c.requires.row)

pub put_each-requires-clause-room : goal.put_each-requires-clause-room
put_each-requires-clause-room c =
    let cluster = c.args.cluster.now in
    row-room (length cluster.nodes) _ c.args.row c.requires.row
    (λ n low. let a = few-given cluster c.args.states.now.moment is_started c.args.leaf cluster.locations cluster.rule_locations n in
    omega (arith, a, small-own cluster c.args.leaf c.requires.valid.limits))

pub returns : goal.returns
returns c =
    let cluster = c.args.cluster.now in
    let states = c.args.states.now in
    put-each (length cluster.nodes) c.len-nodes.result (has c.of-active.result) (is_active_by cluster states c.args.leaf) c.stickiness_of.result (stickiness_of cluster c.args.leaf)
    (given_by cluster states c.args.leaf) c.args.row c.put_each.new.row c.len-nodes.ensures
    (λ n low. let passed = c.of-active.ensures.passed n (omega (arith, low, c.len-nodes.ensures)) in search rules)
    c.stickiness_of.ensures c.put_each.ensures.terms c.requires.row
