use Rattle.std.proofs.Common.{length, take}
use Rattle.placement.specs.Locations.{located}
use Rattle.placement.specs.Inner.Locations.{is_role}
use Rattle.placement.specs.Rows.{IsRow}
use Rattle.placement.proofs.totals.locations.located_row.Given as goal

abbrev pub invariant-loop-rule : goal.invariant-loop-rule
invariant-loop-rule l = IsRow (length l.cluster.nodes) (located (is_role l.role) l.leaf (take l.rule-index l.rule-items)) l.row
