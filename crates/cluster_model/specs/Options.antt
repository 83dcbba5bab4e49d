-- The options of a cluster, with their defaults (Pacemaker Explained, "Cluster Options").
use Rattle.std.specs.Prelude.{ℕ, true, false, if◌then◌else◌, List, codes, unwrap_or, Option, Some, None}
use Rattle.crm_lex.specs.Names.{is}
use Rattle.crm_parse.specs.declared.statement.Statement.{Statement}
use Rattle.crm_parse.specs.Values.{count_of}
use Rattle.cluster_types.specs.declared.cluster.Policy.{Policy}
use Rattle.cluster_types.specs.declared.cluster.Policy.TheVariants.{Stop, Ignore, Freeze}
use Rattle.cluster_types.specs.declared.cluster.Properties.{Properties}
use Rattle.cluster_model.specs.Settings.{option_as, option_given}

-- what a cluster without quorum may do, by its name
unfoldable pub policy_of : List ℕ → Option Policy
policy_of word =
    if is word (codes "stop") then Some Stop
    else if is word (codes "ignore") then Some Ignore
    else if is word (codes "freeze") then Some Freeze
    else None

-- what the statements say of the whole cluster
unfoldable pub properties_of : List Statement → Properties
properties_of statements = record {
  symmetric = option_given (codes "symmetric-cluster") true statements;
  fencing = option_given (codes "stonith-enabled") true statements;
  startup_fencing = option_given (codes "startup-fencing") true statements;
  policy = unwrap_or (option_as policy_of (codes "no-quorum-policy") statements) Stop;
  start_fatal = option_given (codes "start-failure-is-fatal") true statements;
  stop_all = option_given (codes "stop-all-resources") false statements;
  batch_limit = unwrap_or (option_as count_of (codes "batch-limit") statements) 0;
}
