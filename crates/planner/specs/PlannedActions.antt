-- The actions of a plan, in whatever order.
use Rattle.std.specs.Prelude.{List}
use Rattle.cluster_types.specs.declared.cluster.Cluster.{Cluster}
use Rattle.cluster_types.specs.declared.journal.Action.{Action}
use Rattle.cluster_types.specs.declared.journal.Event.{Event}
use Rattle.cluster_types.specs.declared.journal.Promotion.{Promotion}
use Rattle.cluster_types.specs.declared.placement.Placed.{Placed}
use Rattle.cluster_types.specs.NeededActions.{Needed}
use Rattle.cluster_types.specs.Numbers.{AreNeeded}
use Rattle.cluster_types.specs.Plans.{IsPlaced}
use Rattle.cluster_types.specs.Tables.{targets_of}

-- these are needed, each once, for what some journal and promotion scores place
pub record AreOfSomePlan (c : Cluster) (actions : List Action) : Type 0 where
  pub events : List Event
  pub promotions : List Promotion
  pub placed : Placed
  pub goals : IsPlaced c events promotions placed
  pub needed : AreNeeded (Needed c events (targets_of placed.table)) actions
