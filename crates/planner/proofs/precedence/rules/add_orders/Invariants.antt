use Rattle.std.proofs.Common.{◌≤◌, ◌+◌, ◌*◌, ◌++◌, List, take}
use Rattle.std.specs.List.{flat_map}
use Rattle.planner.specs.declared.precedence.sides.Join.{Join}
use Rattle.planner.specs.Joins.{order_joins}
use Rattle.planner.specs.Inner.Places.{places_of}
use Rattle.planner.specs.Inner.Rooms.{Builds}
use Rattle.planner.proofs.precedence.rules.add_orders.Given as goal

abbrev pub invariant-loop-order : goal.invariant-loop-order
invariant-loop-order l =
    ((js : List Join) → Builds l.known.cluster.now l.known.actions.now (places_of l.known.actions.now) l.initial.building.list.items l.initial.building.base js
    → Builds l.known.cluster.now l.known.actions.now (places_of l.known.actions.now) l.building.list.items l.building.base (js ++ flat_map order_joins (take l.order-index l.known.cluster.now.orders)))
    × (l.building.base ≤ l.initial.building.base + 512 * l.order-index)
