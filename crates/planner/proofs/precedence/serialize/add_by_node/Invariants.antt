use Rattle.planner.proofs.NodeLoop.{Locals}
use Rattle.planner.proofs.precedence.serialize.add_by_node.Given as goal

abbrev pub invariant-loop-node : goal.invariant-loop-node
invariant-loop-node l =
    Locals l.known.actions.now l.order l.places l.initial.building.list.items l.building.list.items l.initial.building.base l.building.base l.node
