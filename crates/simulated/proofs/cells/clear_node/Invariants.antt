use Rattle.std.proofs.Common.{◌≡◌, ◌*◌, length}
use Rattle.simulated.specs.KeptReality.{ListsCells}
use Rattle.simulated.specs.RealWorlds.{Cells}
use Rattle.simulated.proofs.Holding.{so_far}
use Rattle.simulated.proofs.cells.clear_node.Given as goal

abbrev pub invariant-loop-leaf : goal.invariant-loop-leaf
invariant-loop-leaf l = record {
  full : length l.cells.items ≡ length l.cluster.leaves * length l.cluster.nodes;
  same : length l.cells.items ≡ length l.fn.cells.items;
  held : (held : Cells) → ListsCells l.cluster l.fn.cells.items held → ListsCells l.cluster l.cells.items (so_far l.node l.leaf held);
}
