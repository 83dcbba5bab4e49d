use Rattle.std.proofs.Common.{◌≡◌, ◌≤◌, ℕ, List, Some, length, slice_get, vec_capacity}
use Rattle.score.specs.Row.{Tally}
use Rattle.placement.specs.OwnRows.{own_by}
use Rattle.placement.specs.Rows.{IsRow}
use Rattle.placement.proofs.totals.own_rows.all_rows.Given as goal

abbrev pub invariant-loop-leaf : goal.invariant-loop-leaf
invariant-loop-leaf l = record {
  size : length l.rows.items ≡ l.leaf;
  room : length l.cluster.leaves ≤ vec_capacity l.rows;
  each : (r : ℕ) (row : List Tally) → slice_get l.rows.items r ≡ Some row → IsRow (length l.cluster.nodes) (own_by l.cluster l.states r) row;
}
