use Rattle.std.proofs.Common.{◌≡◌, map}
use Rattle.std.specs.List.{range_with_len}
use Rattle.cluster_types.specs.Tables.{load_of, targets_of}
use Rattle.placement.proofs.choice.loaded_table.loads_of.Given as goal

abbrev pub invariant-loop-node : goal.invariant-loop-node
invariant-loop-node l = l.loads.items ≡ map (load_of l.cluster (targets_of l.table)) (range_with_len 0 l.node)
