-- The cluster that the code makes, and the fault that it finds.
use Rattle.std.specs.Prelude.{List, [], ◌∷◌, ◌++◌, Option, Result}
use Rattle.std.specs.Option.{option_or}
use Rattle.faults.specs.declared.fault.Fault.{Fault}
use Rattle.faults.specs.Reading.{unless}
use Rattle.crm_parse.specs.declared.statement.Statement.{Statement}
use Rattle.cluster_types.specs.declared.cluster.Cluster.{Cluster}
use Rattle.cluster_types.specs.declared.leaf.Leaf.{Leaf}
use Rattle.cluster_model.specs.declared.expansion.leaves.Leaves.{Leaves}
use Rattle.cluster_model.specs.declared.resolution.directory.Directory.{Directory}
use Rattle.cluster_model.specs.declared.resolution.fault.ModelCause.{ModelCause}
use Rattle.cluster_model.specs.Inner.Checks.{cause_of}
use Rattle.cluster_model.specs.Inner.Colocations.{colocations_of}
use Rattle.cluster_model.specs.Inner.Counting.{counts_of}
use Rattle.cluster_model.specs.Inner.Directories.{directory_of}
use Rattle.cluster_model.specs.FirstFaults.{first_fault}
use Rattle.cluster_model.specs.Inner.Locations.{locations_of, rule_locations_of}
use Rattle.cluster_model.specs.Nodes.{nodes_by}
use Rattle.cluster_model.specs.Options.{properties_of}
use Rattle.cluster_model.specs.Inner.Orders.{orders_of}
use Rattle.cluster_model.specs.Resolution.{cause_of_loops}

-- the cluster of some statements
unfoldable pub cluster_of : Directory → List Leaf → List Statement → Cluster
cluster_of d leaves statements = record {
  nodes = nodes_by statements;
  leaves = leaves;
  locations = locations_of d statements;
  rule_locations = rule_locations_of d statements;
  colocations = colocations_of d statements;
  orders = orders_of d statements;
  properties = properties_of statements;
}

-- the cause of a statement, loops aside
abbrev pub own_cause : Directory → List Statement → Statement → Option ModelCause
own_cause d before s = cause_of d (counts_of (before ++ s ∷ [])) s.form

-- the cause of a statement whose rules have a loop with those before it
abbrev pub loop_cause : Directory → List Leaf → List Statement → Statement → Option ModelCause
loop_cause d leaves before s = cause_of_loops (cluster_of d leaves (before ++ s ∷ []))

-- the cause of a statement after those before it
abbrev pub cause_after : Directory → List Leaf → List Statement → Statement → Option ModelCause
cause_after d leaves before s = option_or (own_cause d before s) (loop_cause d leaves before s)

-- the cluster of a configuration, or the fault of the first statement with a cause
unfoldable pub resolution_by : Leaves → List Statement → Result Cluster (Fault ModelCause)
resolution_by leaves statements =
    let d = directory_of leaves statements in
    unless (first_fault (cause_after d leaves.leaves) [] statements) (cluster_of d leaves.leaves statements)
