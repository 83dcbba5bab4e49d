use Rattle.std.proofs.Common.{◌≡◌, map}
use Rattle.std.specs.List.{range_with_len}
use Rattle.state_unpack.specs.Inner.CellsKept.{node_from}
use Rattle.state_unpack.proofs.states.node_states.Given as goal

abbrev pub invariant-loop-node : goal.invariant-loop-node
invariant-loop-node l = l.states.items ≡ map (node_from l.cluster l.cells l.signs) (range_with_len 0 l.node)
