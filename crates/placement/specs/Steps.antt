-- What decisions choose, of the journal and the promotion scores that are told.
use Rattle.std.specs.Prelude.{◌≡◌, ℕ, ◌<◌, ℤ, List, length, map}
use Rattle.std.specs.List.{range_with_len}
use Rattle.score.specs.NodeSet.{has}
use Rattle.score.specs.declared.node_set.NodeSet.{NodeSet}
use Rattle.cluster_types.specs.declared.cluster.Cluster.{Cluster}
use Rattle.cluster_types.specs.declared.journal.Event.{Event}
use Rattle.cluster_types.specs.declared.journal.Promotion.{Promotion}
use Rattle.cluster_types.specs.declared.placement.Decision.{Decision}
use Rattle.cluster_types.specs.declared.states.States.{States}
use Rattle.cluster_types.specs.Choice.{is_chosen, total_on}
use Rattle.cluster_types.specs.Tables.{Targets}
use Rattle.cluster_types.specs.UnpackedStates.{states_of}
use Rattle.placement.specs.declared.totals.table.ScoreTable.{ScoreTable}
use Rattle.placement.specs.Scores.{scores_of}

module _ (c : Cluster) (es : List Event) (promotions : List Promotion) where
  -- these are the states and the totals that the journal and the promotion scores tell
  pub record Tell (states : States) (scores : ScoreTable) : Type 0 where
    pub known : states ≡ states_of c es promotions
    pub scored : scores ≡ scores_of c es promotions

  -- the totals of a decision, and the nodes that it chooses
  pub record Chooses (table : Targets) (d : Decision) (totals : List ℤ) (nodes : NodeSet) : Type 0 where
    pub each : totals ≡ map (total_on c es promotions table d) (range_with_len 0 (length c.nodes))
    pub chosen : (n : ℕ) → n < length c.nodes → has nodes n ≡ is_chosen c es promotions table d n
