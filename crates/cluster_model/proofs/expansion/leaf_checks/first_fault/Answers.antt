use Rattle.std.proofs.Common.{◌∙◌, sym}
use Rattle.cluster_model.proofs.SameNames.{next_seen}
use Rattle.cluster_model.proofs.expansion.leaf_checks.first_fault.Goals as goal

pub loop-statement-preserved : goal.loop-statement-preserved
loop-statement-preserved c =
    let l = c.loop-statement in
    l.invariant
    ∙ next_seen c.args.kinds.now l.seen _ c.args.statements.now l.statement-index c.statement-item.result c.loop-statement-test.true c.statement-item.is
    (sym c.in_ok-cause.ensures ∙ c.in_default.is) c.in_ok-add.ensures
