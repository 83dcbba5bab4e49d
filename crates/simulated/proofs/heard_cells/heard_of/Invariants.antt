use Rattle.std.proofs.Common.{take}
use Rattle.simulated.specs.Inner.Firsts.{HearsOutcomes}
use Rattle.simulated.proofs.heard_cells.heard_of.Given as goal

abbrev pub invariant-loop-event : goal.invariant-loop-event
invariant-loop-event l = HearsOutcomes l.cluster (take l.event-index l.events) l.heard.items
