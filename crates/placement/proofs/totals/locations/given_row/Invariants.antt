use Rattle.std.proofs.Common.{length, take}
use Rattle.placement.specs.Locations.{scores_given}
use Rattle.placement.specs.Inner.Locations.{is_role}
use Rattle.placement.specs.Rows.{IsRow}
use Rattle.placement.proofs.totals.locations.given_row.Given as goal

abbrev pub invariant-loop-rule : goal.invariant-loop-rule
invariant-loop-rule l =
    IsRow (length l.cluster.nodes) (scores_given l.cluster l.moment (is_role l.role) l.leaf l.cluster.locations (take l.rule-index l.rule-items)) l.row
