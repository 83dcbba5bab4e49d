use Rattle.std.proofs.Common.{◌≡◌, ◌++◌, take}
use Rattle.placement.specs.Inner.Dependencies.{by_orders}
use Rattle.placement.proofs.held_targets.dependencies.push_orders.Given as goal

abbrev pub invariant-loop-order : goal.invariant-loop-order
invariant-loop-order l = l.list.items ≡ l.fn.list.items ++ by_orders l.cluster l.pins (take l.order-index l.cluster.orders)
