-- The totals of all cells by the states of the cluster (follows from the definition of a decision's base).
use Rattle.std.specs.Prelude.{ℕ, ℤ, length}
use Rattle.cluster_types.specs.declared.cluster.Cluster.{Cluster}
use Rattle.cluster_types.specs.declared.states.States.{States}
use Rattle.score.specs.Total.{total_of}
use Rattle.placement.specs.declared.totals.table.ScoreTable.{ScoreTable}
use Rattle.placement.specs.Inner.LendingRows.{all_joined}
use Rattle.placement.specs.Inner.OwnRows.{terms_by}
use Rattle.placement.specs.Inner.Promotions.{wished_by}
use Rattle.placement.specs.Scores.{cells_of}

-- the totals of all decisions, before colocations, by the states
module _ (c : Cluster) (states : States) where
  abbrev pub place_by : ℕ → ℕ → ℤ
  place_by r n = total_of (terms_by c states (all_joined c states r) n)

  abbrev pub promote_by : ℕ → ℕ → ℤ
  promote_by r n = total_of (wished_by c states.moment states.promotions r n)

  abbrev pub table_by : ScoreTable
  table_by = record { nodes = length c.nodes; places = cells_of c place_by; promotes = cells_of c promote_by }
