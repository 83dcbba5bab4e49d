use Rattle.std.proofs.Common.{◌≡◌, false, take}
use Rattle.graph_exec.specs.Flights.{pairs_in_flight}
use Rattle.graph_exec.specs.Inner.Flights.{is_busy}
use Rattle.graph_exec.proofs.transition.flight.InFlight.is_busy.Given as goal

abbrev pub invariant-loop-place : goal.invariant-loop-place
invariant-loop-place l = is_busy (take l.place (pairs_in_flight l.self)) l.leaf l.node ≡ false
