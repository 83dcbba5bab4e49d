use Rattle.std.proofs.Common.{◌≡◌, List, filter, length, take}
use Rattle.cluster_types.specs.declared.journal.Event.{Event}
use Rattle.cluster_types.specs.Tables.{Targets}
use Rattle.planner.specs.CycledCells.{with_orders}
use Rattle.planner.specs.Inner.Levels.{AreNeeds, is_at_level, marks_in}
use Rattle.planner.proofs.needed_actions.passing.mark_level.Given as goal

abbrev pub invariant-loop-order : goal.invariant-loop-order
invariant-loop-order l = record {
  nodes : l.marks.nodes ≡ l.fn.marks.nodes;
  size : length l.marks.cells.items ≡ length l.fn.marks.cells.items;
  marks : (es : List Event) (targets : Targets) → AreNeeds l.cluster es targets l.needs
      → marks_in l.marks.nodes l.marks.cells.items
      ≡ with_orders l.cluster es targets (marks_in l.fn.marks.nodes l.fn.marks.cells.items)
      (filter (is_at_level l.cluster l.level) (take l.order-index l.cluster.orders));
}
