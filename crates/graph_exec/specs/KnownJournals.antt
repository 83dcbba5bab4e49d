-- A journal of a cluster (rule of this project).
use Rattle.std.specs.Prelude.{List}
use Rattle.cluster_types.specs.declared.cluster.Cluster.{Cluster}
use Rattle.cluster_types.specs.declared.journal.Event.{Event}
use Rattle.cluster_types.specs.declared.journal.Promotion.{Promotion}

-- a journal of a cluster
pub record KnownJournalOf : Type 0 where
  pub cluster : Cluster
  pub events : List Event
  pub promotions : List Promotion
