-- Of the joins that hang on no rule an action stands on five sides at most.
use Rattle.std.proofs.Common.{arith, ◌≤◌, List}
use Rattle.cluster_types.specs.declared.cluster.Cluster.{Cluster}
use Rattle.cluster_types.specs.declared.journal.Action.{Action}
use Rattle.cluster_types.specs.declared.journal.Action.TheVariants.{Fence, Probe, Operation, MigrateTo, MigrateFrom}
use Rattle.cluster_types.specs.declared.leaf.Op.TheVariants as op
use Rattle.planner.specs.Joins.{first_joins}
use Rattle.planner.specs.Inner.Joins.{stands}

pub few : (c : Cluster) (actions : List Action) (x : Action) → stands c actions first_joins x ≤ 5
few c actions (Fence n) = omega arith
few c actions (Probe r n) = omega arith
few c actions (Operation op.Start r n i role) = omega arith
few c actions (Operation op.Stop r n i role) = omega arith
few c actions (Operation op.Promote r n i role) = omega arith
few c actions (Operation op.Demote r n i role) = omega arith
few c actions (Operation op.Monitor r n i role) = omega arith
few c actions (MigrateTo r s t) = omega arith
few c actions (MigrateFrom r s t) = omega arith
