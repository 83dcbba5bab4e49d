-- The edges of all joins of a cluster lead from one action to another just where some join has the one before the other.
use Rattle.std.proofs.Common.{arith, ◌≡◌, true, List, length, Contains}
use Rattle.std.specs.List.{list_any}
use Rattle.cluster_types.specs.declared.cluster.Cluster.{Cluster}
use Rattle.cluster_types.specs.declared.journal.Action.{Action}
use Rattle.planner.specs.Inner.Gates.{edges_of_joins, gates_upto}
use Rattle.planner.specs.Joins.{joins_of}
use Rattle.planner.specs.Inner.Places.{places_of}
use Rattle.planner.specs.Inner.Rooms.{rows_of_join, width_of_join}
use Rattle.planner.specs.ActionNames.{IsActionWithin}
use Rattle.planner.proofs.AllJoins.{joined_at, joins_group}
use Rattle.planner.proofs.EvenJoins.{each_even}
use Rattle.planner.specs.Inner.Groups.{IsGroup}
use Rattle.planner.proofs.JoinFits.{join_fits}

module _ (c : Cluster) (actions : List Action) (inside : (a : Action) → Contains actions a → IsActionWithin c a) where
  pub all_joins : IsGroup (length actions) (length actions) (gates_upto c actions (rows_of_join c) (width_of_join c) (places_of actions) (length actions) (joins_of c))
      (edges_of_joins c actions (rows_of_join c) (width_of_join c) (places_of actions) (length actions) (joins_of c))
      (λ x y. list_any (joined_at c actions (rows_of_join c) (width_of_join c) (places_of actions) x y) (joins_of c) ≡ true)
  all_joins =
      joins_group c actions (rows_of_join c) (width_of_join c) (places_of actions) (length actions) (joins_of c) (omega arith)
      (λ j h. join_fits c actions inside j (each_even c j h))
