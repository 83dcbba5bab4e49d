-- States and totals that one journal tells.
use Rattle.std.specs.Prelude.{List}
use Rattle.cluster_types.specs.declared.cluster.Cluster.{Cluster}
use Rattle.cluster_types.specs.declared.journal.Event.{Event}
use Rattle.cluster_types.specs.declared.journal.Promotion.{Promotion}
use Rattle.cluster_types.specs.declared.states.States.{States}
use Rattle.placement.specs.declared.totals.table.ScoreTable.{ScoreTable}
use Rattle.placement.specs.Steps.{Tell}

-- one journal with its promotion scores tells the states and the totals
pub record HaveJournal (c : Cluster) (states : States) (scores : ScoreTable) : Type 0 where
  pub events : List Event
  pub promotions : List Promotion
  pub tell : Tell c events promotions states scores
