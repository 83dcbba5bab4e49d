use Rattle.std.proofs.Common.{◌<◌, Contains, take}
use Rattle.cluster_types.specs.declared.leaf.Op.TheVariants.{Stop}
use Rattle.cluster_types.specs.declared.rules.Order.{Order}
use Rattle.cluster_types.specs.Numbers.{rank, step_of}
use Rattle.planner.proofs.needed_actions.passing.top_level.Given as goal

abbrev pub invariant-loop-order : goal.invariant-loop-order
invariant-loop-order l = (o : Order) → Contains (take l.order-index l.cluster.orders) o → rank l.cluster (step_of Stop o.first) < l.top
