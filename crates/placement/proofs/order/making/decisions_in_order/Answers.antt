use Rattle.placement.proofs.DecisionsWithin.{made-within}
use Rattle.placement.proofs.OrderOfStates.{order-decides}
use Rattle.placement.proofs.order.making.decisions_in_order.Goals as goal

pub returns-clause-leaves : goal.returns-clause-leaves
returns-clause-leaves c = made-within c.args.cluster.now c.args.pins.now _ c.in_ok-order.order.items c.in_ok-order.ensures.made

pub returns-clause-order : goal.returns-clause-order
returns-clause-order c = λ events promotions told table pinned.
    order-decides c.args.cluster.now events promotions c.args.states.now c.args.scores.now c.args.pins.now c.in_ok-order.order.items told table pinned
    c.in_ok-order.ensures
