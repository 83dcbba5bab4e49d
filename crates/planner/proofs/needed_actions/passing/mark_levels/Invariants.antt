use Rattle.std.proofs.Common.{◌≡◌, List, length}
use Rattle.cluster_types.specs.declared.journal.Event.{Event}
use Rattle.cluster_types.specs.Tables.{Targets}
use Rattle.planner.specs.CycledCells.{with_orders}
use Rattle.planner.specs.Inner.Levels.{AreNeeds, below_level, marks_in}
use Rattle.planner.proofs.needed_actions.passing.mark_levels.Given as goal

-- what is left to do of these marks gives what was to be done
abbrev pub invariant-loop-left : goal.invariant-loop-left
invariant-loop-left l = record {
  nodes : l.marks.nodes ≡ l.fn.marks.nodes;
  size : length l.marks.cells.items ≡ length l.fn.marks.cells.items;
  marks : (es : List Event) (targets : Targets) → AreNeeds l.cluster es targets l.needs
      → with_orders l.cluster es targets (marks_in l.marks.nodes l.marks.cells.items) (below_level l.cluster l.left)
      ≡ with_orders l.cluster es targets (marks_in l.fn.marks.nodes l.fn.marks.cells.items) (below_level l.cluster l.top);
}

abbrev pub decreases-loop-left : goal.decreases-loop-left
decreases-loop-left l = l.left
