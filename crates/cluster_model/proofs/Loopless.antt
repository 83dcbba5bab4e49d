-- The rules of a cluster that a configuration resolves to have no loop.
use Rattle.std.proofs.Common.{◌≡◌}
use Rattle.std.specs.Prelude.{List, Ok}
use Rattle.cluster_types.specs.declared.cluster.Cluster.{Cluster}
use Rattle.cluster_types.specs.Decisions.{NeedsHaveNoLoop}
use Rattle.cluster_types.specs.Numbers.{StepsHaveNoLoop}
use Rattle.loops.proofs.LoopTests.{need_of_none, step_of_none}
use Rattle.crm_parse.specs.declared.statement.Statement.{Statement}
use Rattle.cluster_model.specs.declared.expansion.leaves.Leaves.{Leaves}
use Rattle.cluster_model.specs.Resolution.{resolution_of}
use Rattle.cluster_model.proofs.Outcome.{resolved-loopless}

module _ (leaves : Leaves) (statements : List Statement) (c : Cluster) (r : resolution_of leaves statements ≡ Ok c) where
  pub needs_without_loop : NeedsHaveNoLoop c
  needs_without_loop = let l = resolved-loopless leaves statements c r in need_of_none c l.needs

  pub steps_without_loop : StepsHaveNoLoop c
  steps_without_loop = let l = resolved-loopless leaves statements c r in step_of_none c l.steps
