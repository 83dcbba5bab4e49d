use Rattle.std.proofs.Common.{◌≡◌, ◌==◌, ◌&&◌, ◌||◌, ℕ, false, length, nat_lt, slice_index_or}
use Rattle.planner.specs.Inner.Levels.{marks_in}
use Rattle.planner.proofs.needed_actions.marks.CellMarks.mark_where.Given as goal

abbrev pub invariant-loop-node : goal.invariant-loop-node
invariant-loop-node l = record {
  nodes : l.self.nodes ≡ l.fn.self.nodes;
  size : length l.self.cells.items ≡ length l.fn.self.cells.items;
  marks : (r n : ℕ) → marks_in l.self.nodes l.self.cells.items r n
      ≡ (marks_in l.fn.self.nodes l.fn.self.cells.items r n || r == l.leaf && (nat_lt n l.node && slice_index_or l.flags n false));
}
