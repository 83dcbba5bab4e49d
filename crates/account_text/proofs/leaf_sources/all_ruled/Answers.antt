use Rattle.std.proofs.Common.{rules, refl}
use Rattle.account_text.proofs.SourceRows.{ruled_more}
use Rattle.account_text.proofs.leaf_sources.all_ruled.Goals as goal

pub loop-rule-preserved : goal.loop-rule-preserved
loop-rule-preserved c =
    let l = c.loop-rule in
    ruled_more c.args.cluster.now c.args.moment c.as_slice-rule-items.result.now c.args.leaf l.rule-index c.rule-item.result l.all.items c.push.new.self.items _
    (search rules) (search rules) (search rules) l.invariant c.in_ok-push.ensures.items refl c.nodes_of-nodes.ensures
