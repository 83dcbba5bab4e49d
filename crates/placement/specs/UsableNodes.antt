-- Which nodes may run resources, by the states of the cluster (follows from the definition of usable nodes).
use Rattle.std.specs.Prelude.{ℕ, nat_lt, ◌&&◌, Bool, not, length}
use Rattle.cluster_types.specs.declared.cluster.Cluster.{Cluster}
use Rattle.cluster_types.specs.declared.states.States.{States}
use Rattle.cluster_types.specs.NodeStates.{is_online_in, is_standby}

-- the node is there, online and not in standby
abbrev pub is_usable_by : Cluster → States → ℕ → Bool
is_usable_by c states n =
    nat_lt n (length c.nodes) && (is_online_in states.nodes n && not (is_standby c n))
