use Rattle.std.proofs.Common.{rules, ◌≡◌, IfOk, ap, subst, ◌∙◌}
use Rattle.placement.specs.Inner.ScoresByStates.{table_by}
use Rattle.placement.proofs.TableOfStates.{table-is}
use Rattle.placement.proofs.totals.table.rows.Goals as goal

pub returns : goal.returns
returns c = λ events promotions is.
    let made : IfOk c.table_by.result (λ table. table ≡ table_by c.args.cluster.now c.args.states.now) = search rules in
    subst (λ t. IfOk c.table_by.result (λ table. table ≡ t)) (ap (table_by c.args.cluster.now) is ∙ table-is c.args.cluster.now events promotions) made
