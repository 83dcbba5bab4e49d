-- What states, totals and a placement have in common.
use Rattle.std.specs.Prelude.{◌≡◌, List}
use Rattle.cluster_types.specs.declared.cluster.Cluster.{Cluster}
use Rattle.cluster_types.specs.declared.journal.Event.{Event}
use Rattle.cluster_types.specs.declared.journal.Promotion.{Promotion}
use Rattle.cluster_types.specs.declared.placement.Placed.{Placed}
use Rattle.cluster_types.specs.declared.states.States.{States}
use Rattle.cluster_types.specs.Plans.{IsPlaced}
use Rattle.cluster_types.specs.UnpackedStates.{states_of}
use Rattle.placement.specs.declared.totals.table.ScoreTable.{ScoreTable}
use Rattle.placement.specs.Scores.{scores_of}

-- one journal with its promotion scores tells the states, the totals and the placement
pub record HavePlacement (c : Cluster) (states : States) (scores : ScoreTable) (placed : Placed) : Type 0 where
  pub events : List Event
  pub promotions : List Promotion
  pub known : states ≡ states_of c events promotions
  pub scored : scores ≡ scores_of c events promotions
  pub is : IsPlaced c events promotions placed
