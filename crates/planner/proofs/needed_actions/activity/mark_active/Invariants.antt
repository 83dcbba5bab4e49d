use Rattle.std.proofs.Common.{◌≡◌, ◌&&◌, ℕ, List, length, nat_lt}
use Rattle.cluster_types.specs.declared.journal.Event.{Event}
use Rattle.cluster_types.specs.Tables.{Targets}
use Rattle.planner.specs.CycledCells.{first_marks}
use Rattle.planner.specs.Inner.Levels.{AreNeeds, marks_in}
use Rattle.planner.proofs.needed_actions.activity.mark_active.Given as goal

abbrev pub invariant-loop-leaf : goal.invariant-loop-leaf
invariant-loop-leaf l = record {
  nodes : l.marks.nodes ≡ l.fn.marks.nodes;
  size : length l.marks.cells.items ≡ length l.fn.marks.cells.items;
  marks : (es : List Event) (targets : Targets) → AreNeeds l.cluster es targets l.needs
      → (r n : ℕ) → marks_in l.marks.nodes l.marks.cells.items r n ≡ (nat_lt r l.leaf && first_marks l.cluster es targets r n);
}
