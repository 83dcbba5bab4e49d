use Rattle.std.proofs.Common.{◌≡◌, take}
use Rattle.cluster_model.specs.Inner.Orders.{orders_of}
use Rattle.cluster_model.proofs.resolution.orders.orders_of.Given as goal

abbrev pub invariant-loop-statement : goal.invariant-loop-statement
invariant-loop-statement l = l.orders ≡ orders_of l.directory (take l.statement-index l.statements)
