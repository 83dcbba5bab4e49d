use Rattle.std.proofs.Common.{◌≡◌, true}
use Rattle.cluster_types.proofs.LeastSets.{cycled-least}
use Rattle.planner.specs.CycledCells.{first_marks, with_orders}
use Rattle.planner.proofs.MarksClosed.{last_closed}
use Rattle.planner.proofs.MarksDerived.{first_cycled, orders_cycled}
use Rattle.planner.proofs.action_laws.marks_of_orders_are_the_cycled.Goals as goal

pub returns : goal.returns
returns call =
    λ c es targets os are apart r n. (
      orders_cycled c es targets os are.1 (first_marks c es targets) (first_cycled c es targets) r n,
      cycled-least c es targets (λ x n. with_orders c es targets (first_marks c es targets) os x n ≡ true)
          (last_closed c es targets os are.0 apart) r n,
    )
