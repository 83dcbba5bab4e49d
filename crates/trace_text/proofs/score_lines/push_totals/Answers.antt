use Rattle.std.proofs.Common.{rules, arith, ◌++◌, ap, ◌∙◌}
use Rattle.std.specs.List.{enumerate_from, flat_map}
use Rattle.std.proofs.lemmas.List.{take_all}
use Rattle.std.proofs.lemmas.List.FromFn.{length-enumerate_from}
use Rattle.cluster_types.specs.Texts.{score_line}
use Rattle.trace_text.proofs.MoreLines.{numbered_more}
use Rattle.trace_text.proofs.score_lines.push_totals.Goals as goal

pub loop-node-preserved : goal.loop-node-preserved
loop-node-preserved c =
    let l = c.loop-node in
    numbered_more (score_line c.args.cluster.now c.args.leaf) 0 c.args.text.now.items l.text.items c.push_total.new.text.items c.args.totals.now l.node l.node
    c.index-totals-node.result c.loop-node-test.true c.index-totals-node.is (omega arith) l.invariant (search rules)

pub returns : goal.returns
returns c =
    let l = c.loop-node in
    l.invariant
    ∙ ap (λ xs. c.args.text.now.items ++ flat_map (score_line c.args.cluster.now c.args.leaf) xs)
    (take_all l.node (enumerate_from 0 c.args.totals.now) (omega (arith, length-enumerate_from 0 c.args.totals.now, c.loop-node-test.false)))
