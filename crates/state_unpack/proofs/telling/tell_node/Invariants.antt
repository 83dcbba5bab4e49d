use Rattle.std.proofs.Common.{ℕ, ◌==◌, ◌&&◌, nat_lt}
use Rattle.state_unpack.specs.KeptCells.{IsFull}
use Rattle.state_unpack.specs.Inner.ToldCells.{TellsEvent}
use Rattle.state_unpack.proofs.telling.tell_node.Given as goal

abbrev pub invariant-loop-leaf : goal.invariant-loop-leaf
invariant-loop-leaf l = record {
  full : IsFull l.cluster l.cells.items;
  told : TellsEvent l.cluster l.event (λ (r n : ℕ). nat_lt r l.leaf && l.node == n) l.fn.cells.items l.cells.items;
}
