-- Which leaves and nodes an action may name.
use Rattle.std.specs.Prelude.{◌<◌, length}
use Rattle.cluster_types.specs.declared.cluster.Cluster.{Cluster}
use Rattle.cluster_types.specs.declared.journal.Action.{Action}
use Rattle.cluster_types.specs.declared.journal.Action.TheVariants.{Fence, Probe, Operation, MigrateTo, MigrateFrom}

-- the leaves and nodes of an action are those of the cluster
abbrev pub IsActionWithin : Cluster → Action → Type 0
IsActionWithin c (Fence n) = n < length c.nodes
IsActionWithin c (Probe r n) = (r < length c.leaves) × (n < length c.nodes)
IsActionWithin c (Operation o r n interval role) = (r < length c.leaves) × (n < length c.nodes)
IsActionWithin c (MigrateTo r source target) = (r < length c.leaves) × (source < length c.nodes) × (target < length c.nodes)
IsActionWithin c (MigrateFrom r source target) = (r < length c.leaves) × (source < length c.nodes) × (target < length c.nodes)
