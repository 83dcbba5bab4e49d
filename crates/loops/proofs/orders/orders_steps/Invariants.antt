use Rattle.std.proofs.Common.{Contains, take}
use Rattle.cluster_types.specs.declared.rules.Order.{Order}
use Rattle.loops.specs.FirstLoops.{OrdersSteps}
use Rattle.loops.proofs.orders.orders_steps.Given as goal

abbrev pub invariant-loop-order : goal.invariant-loop-order
invariant-loop-order l = (o : Order) → Contains (take l.order-index l.cluster.orders) o → OrdersSteps l.cluster o
