-- What holds of a cluster that a configuration resolves to.
use Rattle.std.proofs.Common.{◌≡◌, Bool, true, false, List, [], ◌∷◌, ◌++◌, cond, refl, sym, ◌∙◌, subst}
use Rattle.std.specs.Prelude.{Option, Some, None, Ok}
use Rattle.std.specs.Option.{option_or}
use Rattle.faults.proofs.Steps.{unless-ok}
use Rattle.cluster_types.specs.declared.cluster.Cluster.{Cluster}
use Rattle.cluster_types.specs.declared.leaf.Leaf.{Leaf}
use Rattle.loops.specs.FirstLoops.{has_need_loop, has_step_loop}
use Rattle.loops.proofs.LoopTests.{no_need_found, no_step_found}
use Rattle.crm_parse.specs.declared.statement.Statement.{Statement}
use Rattle.cluster_model.specs.declared.expansion.leaves.Leaves.{Leaves}
use Rattle.cluster_model.specs.declared.resolution.directory.Directory.{Directory}
use Rattle.cluster_model.specs.declared.resolution.fault.ModelCause.{ModelCause}
use Rattle.cluster_model.specs.declared.resolution.fault.ModelCause.TheVariants.{ColocationLoop, OrderLoop}
use Rattle.cluster_model.specs.Inner.Directories.{directory_of}
use Rattle.cluster_model.specs.FirstFaults.{first_fault}
use Rattle.cluster_model.specs.Inner.Resolution.{cause_after, cluster_of, loop_cause, own_cause, resolution_by}
use Rattle.cluster_model.specs.Resolution.{cause_of_loops, resolution_of}
use Rattle.cluster_model.proofs.Sound.{second-none}
use Rattle.cluster_model.proofs.Split.{none_stays, split}
use Rattle.cluster_model.proofs.RulesSaid.{resolution_is}

-- nothing stands in the way of a cluster
pub record IsClean (d : Directory) (leaves : List Leaf) (statements : List Statement) (c : Cluster) : Type 0 where
  pub no_fault : first_fault (cause_after d leaves) [] statements ≡ None
  pub is_whole : c ≡ cluster_of d leaves statements

pub clean : (leaves : Leaves) (statements : List Statement) (c : Cluster) → resolution_of leaves statements ≡ Ok c
    → IsClean (directory_of leaves statements) leaves.leaves statements c
unfolding resolution_by
clean leaves statements c h =
    let d = directory_of leaves statements in
    let (none, same) =
    unless-ok (first_fault (cause_after d leaves.leaves) [] statements) (cluster_of d leaves.leaves statements) c (sym (resolution_is leaves statements) ∙ h) in
    record { no_fault = none; is_whole = sym same }

-- no statement has a cause, loops aside
pub none-own : (d : Directory) (leaves : List Leaf) (statements : List Statement) (c : Cluster) → IsClean d leaves statements c
    → first_fault (own_cause d) [] statements ≡ None
none-own d leaves statements c h = second-none _ _ (sym (split (own_cause d) (loop_cause d leaves) [] statements) ∙ h.no_fault)

-- the tests find no loop
pub record IsLoopless (c : Cluster) : Type 0 where
  pub needs : has_need_loop c ≡ false
  pub steps : has_step_loop c ≡ false

none-looped : (c : Cluster) → cause_of_loops c ≡ None → IsLoopless c
none-looped c h = on (has_need_loop c) (has_step_loop c) refl refl h where
  on : (a b : Bool) → has_need_loop c ≡ a → has_step_loop c ≡ b → cond a (Some ColocationLoop) (cond b (Some OrderLoop) None) ≡ None → IsLoopless c
  on true b e f h = absurd cc
  on false true e f h = absurd cc
  on false false e f h = record { needs = e; steps = f }

without-rules : (d : Directory) (leaves : List Leaf) → IsLoopless (cluster_of d leaves [])
unfolding cluster_of
without-rules d leaves = record { needs = no_need_found (cluster_of d leaves []) refl; steps = no_step_found (cluster_of d leaves []) refl }

second-none-cause : (one other : Option ModelCause) → option_or one other ≡ None → other ≡ None
second-none-cause None other h = h
second-none-cause (Some cause) other h = absurd cc

pub resolved-loopless : (leaves : Leaves) (statements : List Statement) (c : Cluster) → resolution_of leaves statements ≡ Ok c → IsLoopless c
resolved-loopless leaves statements c r =
    let d = directory_of leaves statements in
    let ok = clean leaves statements c r in
    let whole : IsLoopless (cluster_of d leaves.leaves statements)
    = none_stays (cause_after d leaves.leaves) (λ part. IsLoopless (cluster_of d leaves.leaves part))
    (λ before s h. none-looped (cluster_of d leaves.leaves (before ++ s ∷ [])) (second-none-cause (own_cause d before s) (loop_cause d leaves.leaves before s) h))
    [] statements ok.no_fault (without-rules d leaves.leaves) in
    subst IsLoopless (sym ok.is_whole) whole
