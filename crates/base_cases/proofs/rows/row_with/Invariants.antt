use Rattle.std.proofs.Common.{◌≡◌, length}
use Rattle.score.specs.Inner.SmallRows.{IsSmallRow}
use Rattle.base_cases.proofs.rows.row_with.Given as goal

abbrev pub invariant-loop-i : goal.invariant-loop-i
invariant-loop-i g l = record { nodes : length l.row ≡ l.nodes; small : IsSmallRow l.i l.row }
