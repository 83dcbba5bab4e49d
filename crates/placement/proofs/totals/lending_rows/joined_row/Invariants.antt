use Rattle.std.proofs.Common.{length}
use Rattle.placement.specs.Inner.LendingRows.{joined_below}
use Rattle.placement.specs.Inner.OwnRows.{terms_by}
use Rattle.placement.specs.Rows.{IsRow}
use Rattle.placement.proofs.totals.lending_rows.joined_row.Given as goal

abbrev pub invariant-loop-lender : goal.invariant-loop-lender
invariant-loop-lender l =
    IsRow (length l.own.cluster.now.nodes) (terms_by l.own.cluster.now l.own.states.now (joined_below l.own.cluster.now l.own.states.now l.leaf l.lender)) l.joined
