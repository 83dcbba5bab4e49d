use Rattle.std.proofs.Common.{take}
use Rattle.cluster_types.specs.Tables.{targets_of}
use Rattle.placement.specs.Rows.{IsRow}
use Rattle.placement.specs.Inner.CountedScores.{counted_scores}
use Rattle.placement.proofs.colocations.preferring.preference_row.Given as goal

abbrev pub invariant-loop-rule : goal.invariant-loop-rule
invariant-loop-rule l = IsRow l.nodes (counted_scores (targets_of l.table) l.decision (take l.rule-index l.rule-items)) l.row
