-- The lists by which a simulated cluster is kept (rule of this project).
use Rattle.std.specs.Prelude.{◌≡◌, ◌*◌, List, length}
use Rattle.cluster_types.specs.declared.cluster.Cluster.{Cluster}
use Rattle.cluster_types.specs.Valid.{KeepsLimits}
use Rattle.simulated.specs.declared.real.Real.{Real}
use Rattle.simulated.specs.declared.real.Standing.{Standing}

-- the cluster is within the limits, and the lists have each node and each cell
pub record RealityFits (c : Cluster) (nodes : List Standing) (cells : List Real) : Type 0 where
  pub limits : KeepsLimits c
  pub nodes_all : length nodes ≡ length c.nodes
  pub cells_all : length cells ≡ length c.leaves * length c.nodes
