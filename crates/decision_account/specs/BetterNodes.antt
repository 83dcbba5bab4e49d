-- Which of two nodes is better for a decision, with the table so far (rule of this project).
use Rattle.std.specs.Prelude.{◌≡◌, ℕ, ◌<◌, true, int_lt, List}
use Rattle.cluster_types.specs.declared.cluster.Cluster.{Cluster}
use Rattle.cluster_types.specs.declared.journal.Event.{Event}
use Rattle.cluster_types.specs.declared.journal.Promotion.{Promotion}
use Rattle.cluster_types.specs.declared.placement.Decision.{Decision}
use Rattle.cluster_types.specs.Choice.{total_on}
use Rattle.cluster_types.specs.Tables.{Targets, load_of}

module _ (c : Cluster) (es : List Event) (promotions : List Promotion) (table : Targets) (d : Decision) where
  -- the one node is better than the other: by a greater total; where the totals are equal, by fewer leaves that have a target there; where these are
  -- equal too, as the earlier node
  pub data IsBetter (one other : ℕ) : Type 0 where
    by_total : int_lt (total_on c es promotions table d other) (total_on c es promotions table d one) ≡ true → IsBetter one other
    by_load : total_on c es promotions table d one ≡ total_on c es promotions table d other → load_of c table one < load_of c table other → IsBetter one other
    by_place : total_on c es promotions table d one ≡ total_on c es promotions table d other → load_of c table one ≡ load_of c table other → one < other
        → IsBetter one other
