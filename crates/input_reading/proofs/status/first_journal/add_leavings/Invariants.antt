use Rattle.std.proofs.Common.{◌++◌}
use Rattle.input_reading.proofs.Leaving.{Left}
use Rattle.input_reading.specs.Inner.FirstJournal.{leavings}
use Rattle.input_reading.proofs.status.first_journal.add_leavings.Given as goal

abbrev pub invariant-loop-node : goal.invariant-loop-node
invariant-loop-node l = Left l.cluster l.told (l.fn.events ++ leavings l.cluster l.told) l.events l.node l.nodes
