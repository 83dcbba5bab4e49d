use Rattle.std.proofs.Common.{rules, length, map, sym, ap, subst, ◌∙◌}
use Rattle.std.specs.List.{range_with_len}
use Rattle.cluster_types.specs.Choice.{preference}
use Rattle.cluster_types.specs.Tables.{targets_of}
use Rattle.placement.specs.Rows.{IsRow}
use Rattle.placement.proofs.TermRows.{row-length}
use Rattle.placement.specs.Inner.CountedScores.{counted_scores}
use Rattle.placement.proofs.colocations.preferring.preferences.Goals as goal

pub totals_of-requires : goal.totals_of-requires
totals_of-requires c =
    let cluster = c.args.cluster.now in
    let row : IsRow (length cluster.nodes) (counted_scores (targets_of c.args.table.now) c.args.decision cluster.colocations) c.in_ok-row.row = search rules in
    row-length (length cluster.nodes) _ c.in_ok-row.row row ∙ sym c.len.ensures

pub returns : goal.returns
returns c =
    let cluster = c.args.cluster.now in
    let terms = counted_scores (targets_of c.args.table.now) c.args.decision cluster.colocations in
    let row : IsRow (length cluster.nodes) terms c.in_ok-row.row = search rules in
    c.in_ok-all.ensures.totals terms (subst (λ k. IsRow k terms c.in_ok-row.row) (sym c.len.ensures) row)
    ∙ ap (λ k. map (preference cluster (targets_of c.args.table.now) c.args.decision) (range_with_len 0 k)) c.len.ensures
