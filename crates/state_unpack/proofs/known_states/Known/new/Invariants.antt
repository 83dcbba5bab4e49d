use Rattle.std.proofs.Common.{take}
use Rattle.state_unpack.specs.KeptKnowledge.{Knows}
use Rattle.state_unpack.proofs.known_states.Known.new.Given as goal

abbrev pub invariant-loop-event : goal.invariant-loop-event
invariant-loop-event l = Knows l.cluster (take l.event-index l.events) l.known
