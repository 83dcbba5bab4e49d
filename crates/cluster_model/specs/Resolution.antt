-- The cluster that a configuration says, or its first fault (the causes and their order are rules of this project).
use Rattle.std.specs.Prelude.{if◌then◌else◌, List, [], ◌∷◌, ◌++◌, Option, Some, None, Result}
use Rattle.std.specs.Option.{option_or}
use Rattle.std.specs.List.{flat_map}
use Rattle.faults.specs.declared.fault.Fault.{Fault}
use Rattle.faults.specs.Reading.{unless}
use Rattle.crm_parse.specs.declared.statement.Statement.{Statement}
use Rattle.cluster_types.specs.declared.cluster.Cluster.{Cluster}
use Rattle.loops.specs.FirstLoops.{has_need_loop, has_step_loop}
use Rattle.cluster_model.specs.declared.expansion.leaves.Leaves.{Leaves}
use Rattle.cluster_model.specs.declared.resolution.fault.ModelCause.{ModelCause}
use Rattle.cluster_model.specs.declared.resolution.fault.ModelCause.TheVariants.{ColocationLoop, OrderLoop}
use Rattle.cluster_model.specs.FirstFaults.{first_fault}
use Rattle.cluster_model.specs.Nodes.{nodes_by}
use Rattle.cluster_model.specs.Options.{properties_of}
use Rattle.cluster_model.specs.Checks.{rule_cause}
use Rattle.cluster_model.specs.Colocations.{its_colocations}
use Rattle.cluster_model.specs.Locations.{its_locations, its_rule_locations}
use Rattle.cluster_model.specs.Orders.{its_orders}

-- the cause where the rules of a cluster have a loop
abbrev pub cause_of_loops : Cluster → Option ModelCause
cause_of_loops c = if has_need_loop c then Some ColocationLoop else if has_step_loop c then Some OrderLoop else None

module _ (leaves : Leaves) (statements : List Statement) where
  -- the cluster that some of the statements say, each list in the order of the text
  unfoldable pub cluster_said : List Statement → Cluster
  cluster_said some = record {
    nodes = nodes_by some;
    leaves = leaves.leaves;
    locations = flat_map (λ s. its_locations leaves statements s.form) some;
    rule_locations = flat_map (λ s. its_rule_locations leaves statements s.form) some;
    colocations = flat_map (λ s. its_colocations leaves s.form) some;
    orders = flat_map (λ s. its_orders leaves statements s.form) some;
    properties = properties_of some;
  }

  -- the cause of a statement after those before it: its own, or a loop of the rules so far
  abbrev pub cause_said : List Statement → Statement → Option ModelCause
  cause_said before s = option_or (rule_cause leaves statements before s) (cause_of_loops (cluster_said (before ++ s ∷ [])))

-- the cluster of a configuration, or the fault of the first statement with a cause
unfoldable pub resolution_of : Leaves → List Statement → Result Cluster (Fault ModelCause)
resolution_of leaves statements = unless (first_fault (cause_said leaves statements) [] statements) (cluster_said leaves statements statements)
