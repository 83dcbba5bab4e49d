use Rattle.std.proofs.Common.{◌≤◌, ◌+◌, ◌*◌, ◌++◌, List, take}
use Rattle.std.specs.List.{flat_map}
use Rattle.planner.specs.declared.precedence.sides.Join.{Join}
use Rattle.planner.specs.Joins.{colocation_joins}
use Rattle.planner.specs.Inner.Places.{places_of}
use Rattle.planner.specs.Inner.Rooms.{Builds}
use Rattle.planner.proofs.precedence.rules.add_colocations.Given as goal

abbrev pub invariant-loop-colocation : goal.invariant-loop-colocation
invariant-loop-colocation l =
    ((js : List Join) → Builds l.known.cluster.now l.known.actions.now (places_of l.known.actions.now) l.initial.building.list.items l.initial.building.base js
    → Builds l.known.cluster.now l.known.actions.now (places_of l.known.actions.now) l.building.list.items l.building.base (js ++ flat_map colocation_joins (take l.colocation-index l.known.cluster.now.colocations)))
    × (l.building.base ≤ l.initial.building.base + 512 * l.colocation-index)
