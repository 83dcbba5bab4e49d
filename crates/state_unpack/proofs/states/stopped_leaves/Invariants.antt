use Rattle.std.proofs.Common.{◌≡◌, map}
use Rattle.std.specs.List.{range_with_len}
use Rattle.state_unpack.specs.Inner.CellsKept.{somewhere, is_stopping}
use Rattle.state_unpack.proofs.states.stopped_leaves.Given as goal

abbrev pub invariant-loop-leaf : goal.invariant-loop-leaf
invariant-loop-leaf l = l.stopped.items ≡ map (λ r. somewhere is_stopping l.cluster r l.now l.cells) (range_with_len 0 l.leaf)
