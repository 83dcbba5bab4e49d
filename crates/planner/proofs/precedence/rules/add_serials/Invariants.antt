use Rattle.std.proofs.Common.{take}
use Rattle.planner.proofs.SerialLoop.{Serials}
use Rattle.planner.proofs.precedence.rules.add_serials.Given as goal

abbrev pub invariant-loop-order : goal.invariant-loop-order
invariant-loop-order l =
    Serials l.known.cluster.now l.known.actions.now l.initial.building.list.items l.building.list.items l.initial.building.base l.building.base (take l.order-index l.known.cluster.now.orders)
