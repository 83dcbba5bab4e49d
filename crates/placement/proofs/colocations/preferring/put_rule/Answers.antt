use Rattle.std.proofs.Common.{◌≡◌, false, sym, ◌∙◌}
use Rattle.cluster_types.specs.Tables.{targets_of}
use Rattle.placement.proofs.RowTerms.{not-counted}
use Rattle.placement.proofs.colocations.preferring.put_rule.Goals as goal

pub returns-then-not-is_dependent_in : goal.returns-then-not-is_dependent_in
returns-then-not-is_dependent_in c = λ terms is.
    let at : c.is_dependent_in.result ≡ false = let t = c.if-not-is_dependent_in.true in cc in
    not-counted (targets_of c.args.table.now) c.args.decision c.args.rule.now c.args.nodes terms c.args.row.now (sym c.is_dependent_in.ensures ∙ at) is
