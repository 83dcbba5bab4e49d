-- A table of the cells of a cluster, with the loads of its nodes.
use Rattle.std.specs.Prelude.{◌≡◌, ℕ, ◌*◌, List, length, map}
use Rattle.std.specs.List.{range_with_len}
use Rattle.cluster_types.specs.declared.cluster.Cluster.{Cluster}
use Rattle.cluster_types.specs.declared.placement.Table.{Table}
use Rattle.cluster_types.specs.Tables.{load_of, targets_of}

pub record IsLoaded (c : Cluster) (table : Table) (loads : List ℕ) : Type 0 where
  pub nodes : table.nodes ≡ length c.nodes
  pub cells : length table.targets ≡ length c.leaves * length c.nodes
  pub each : loads ≡ map (load_of c (targets_of table)) (range_with_len 0 (length c.nodes))
