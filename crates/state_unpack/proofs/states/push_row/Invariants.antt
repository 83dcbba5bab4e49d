use Rattle.std.proofs.Common.{◌≡◌, ◌++◌, map, unwrap_or}
use Rattle.std.specs.List.{range_with_len}
use Rattle.cluster_types.specs.NodeStates.{is_online_in}
use Rattle.state_unpack.specs.Inner.CellsKept.{cell_from}
use Rattle.state_unpack.specs.Inner.Facts.{no_facts}
use Rattle.state_unpack.specs.KeptCells.{cell_in}
use Rattle.state_unpack.proofs.states.push_row.Given as goal

abbrev pub invariant-loop-place : goal.invariant-loop-place
invariant-loop-place l =
    l.known.items
    ≡ l.fn.known.items ++ map (λ n. cell_from l.cluster l.leaf l.now l.fatal (is_online_in l.nodes n) (unwrap_or (cell_in l.cluster l.cells l.leaf n) no_facts)) (range_with_len 0 l.place)
