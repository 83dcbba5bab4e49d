use Rattle.std.proofs.Common.{◌≡◌}
use Rattle.std.specs.List.{flat_map, range_with_len}
use Rattle.state_unpack.specs.Inner.CellsKept.{row_from}
use Rattle.state_unpack.proofs.states.all_cells.Given as goal

abbrev pub invariant-loop-leaf : goal.invariant-loop-leaf
invariant-loop-leaf l = l.known.items ≡ flat_map (row_from l.cluster l.cells l.nodes l.now) (range_with_len 0 l.leaf)
