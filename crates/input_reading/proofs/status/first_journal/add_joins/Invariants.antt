use Rattle.std.proofs.Common.{◌≡◌, ◌++◌, map}
use Rattle.std.specs.List.{range_with_len}
use Rattle.cluster_types.specs.declared.journal.Event.TheVariants.{Up}
use Rattle.input_reading.proofs.status.first_journal.add_joins.Given as goal

abbrev pub invariant-loop-node : goal.invariant-loop-node
invariant-loop-node l = l.events ≡ l.fn.events ++ map Up (range_with_len 0 l.node)
