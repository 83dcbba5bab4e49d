use Rattle.std.proofs.Common.{◌≡◌, ◌++◌, length, ap, ◌∙◌, arith}
use Rattle.std.specs.List.{flat_map, range_with_len}
use Rattle.cluster_types.specs.Tables.{targets_of}
use Rattle.decision_account.specs.Accounts.{node_lines, why_text}
use Rattle.lemmas.proofs.Grown.{values_more}
use Rattle.account_text.proofs.account.push_nodes.Goals as goal

pub loop-node-preserved : goal.loop-node-preserved
loop-node-preserved c = λ es ps tell.
    let l = c.loop-node in
    let asked = c.args.asked.now in
    let cluster = asked.known.now.cluster.now in
    values_more (λ n. why_text cluster (node_lines cluster es ps (targets_of asked.loaded.now.table) asked.decision n)) l.node
    c.args.text.now.items l.text.items c.push_node.new.text.items (l.invariant es ps tell) (c.in_ok-push_node.ensures es ps tell)

pub returns : goal.returns
returns c = λ es ps tell.
    let l = c.loop-node in
    let asked = c.args.asked.now in
    let cluster = asked.known.now.cluster.now in
    let all : l.node ≡ length cluster.nodes = omega (arith, c.loop-node-test.false, l.auto.node-end, c.len-node-end.ensures) in
    l.invariant es ps tell
    ∙ ap (λ k. c.args.text.now.items
    ++ flat_map (λ n. why_text cluster (node_lines cluster es ps (targets_of asked.loaded.now.table) asked.decision n)) (range_with_len 0 k)) all
