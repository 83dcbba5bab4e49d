-- On how many sides of some joins an action stands (follows from what a join is).
use Rattle.std.specs.Prelude.{ℕ, ◌+◌, Option, Some, None, List, sum_by}
use Rattle.cluster_types.specs.declared.cluster.Cluster.{Cluster}
use Rattle.cluster_types.specs.declared.journal.Action.{Action}
use Rattle.planner.specs.declared.precedence.sides.Join.{Join}
use Rattle.cluster_types.specs.Precedence.{LeafOnNode}
use Rattle.planner.specs.Joins.{side_key_of}

module _ (c : Cluster) (actions : List Action) where
  -- on how many sides an action stands: it has as many edges
  abbrev pub one_if : Option LeafOnNode → ℕ
  one_if (Some a) = 1
  one_if None = 0

  abbrev pub stands : List Join → Action → ℕ
  stands joins x = sum_by (λ (j : Join). one_if (side_key_of c actions j.from x) + one_if (side_key_of c actions j.to x)) joins
