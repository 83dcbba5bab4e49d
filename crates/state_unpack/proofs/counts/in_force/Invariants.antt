use Rattle.std.proofs.Common.{◌≡◌, take}
use Rattle.cluster_types.specs.Failures.{failures_in_force}
use Rattle.state_unpack.specs.Tally.{tally_of}
use Rattle.state_unpack.proofs.counts.in_force.Given as goal

abbrev pub invariant-loop-event : goal.invariant-loop-event
invariant-loop-event l = l.tally ≡ tally_of l.cluster (failures_in_force l.cluster l.leaf l.node (take l.event-index l.events))
