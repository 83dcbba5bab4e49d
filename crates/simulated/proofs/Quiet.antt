-- Ends that close no cell: those of agents that say that they failed, or nothing.
use Rattle.std.proofs.Common.{◌≡◌, ℕ, ◌==◌, ◌&&◌, false, [], ◌∷◌, refl}
use Rattle.std.proofs.Math.Bool.{and-false}
use Rattle.cluster_types.specs.declared.cluster.Cluster.{Cluster}
use Rattle.cluster_types.specs.declared.journal.Action.{Action}
use Rattle.cluster_types.specs.declared.journal.Action.TheVariants.{Fence, Probe, Operation, MigrateTo, MigrateFrom}
use Rattle.cluster_types.specs.declared.journal.Event.TheVariants.{Ended}
use Rattle.cluster_types.specs.declared.journal.Outcome.{Outcome}
use Rattle.cluster_types.specs.declared.journal.Outcome.TheVariants.{Code, TimedOut, Gone}
use Rattle.cluster_types.specs.declared.leaf.Op.TheVariants.{Start, Stop, Promote, Demote, Monitor}
use Rattle.cluster_types.specs.May.{closes, closes_promoted}
use Rattle.cluster_types.specs.Outcomes.{is_code_among}

-- the outcome is no exit code that shows where a leaf doesn't run, or isn't promoted
pub record IsQuiet (o : Outcome) : Type 0 where
  pub no_success : is_code_among (0 ∷ []) o ≡ false
  pub no_absence : is_code_among (7 ∷ 5 ∷ []) o ≡ false
  pub no_stop : is_code_among (7 ∷ []) o ≡ false
  pub no_demotion : is_code_among (0 ∷ 190 ∷ 7 ∷ 5 ∷ []) o ≡ false
  pub no_late_demotion : is_code_among (0 ∷ 190 ∷ 7 ∷ []) o ≡ false

pub failed : IsQuiet (Code 1)
failed = record { no_success = refl; no_absence = refl; no_stop = refl; no_demotion = refl; no_late_demotion = refl }

pub late : IsQuiet TimedOut
late = record { no_success = refl; no_absence = refl; no_stop = refl; no_demotion = refl; no_late_demotion = refl }

pub gone : IsQuiet Gone
gone = record { no_success = refl; no_absence = refl; no_stop = refl; no_demotion = refl; no_late_demotion = refl }

module _ (c : Cluster) (r n k m : ℕ) (o : Outcome) (q : IsQuiet o) where
  pub quiet_closes : (a : Action) → closes c r n (Ended k a o m) ≡ false
  quiet_closes (Fence node) = rw (q.no_success, and-false (node == n)) refl
  quiet_closes (Probe leaf node) = rw (q.no_absence, and-false (leaf == r && node == n)) refl
  quiet_closes (Operation Stop leaf node interval role) = rw (q.no_success, and-false (leaf == r && node == n)) refl
  quiet_closes (Operation Start leaf node interval role) = refl
  quiet_closes (Operation Promote leaf node interval role) = refl
  quiet_closes (Operation Demote leaf node interval role) = refl
  quiet_closes (Operation Monitor leaf node interval role) = rw (q.no_stop, and-false (leaf == r && node == n)) refl
  quiet_closes (MigrateTo leaf source target) = refl
  quiet_closes (MigrateFrom leaf source target) = refl

  pub quiet_demotes : (a : Action) → closes_promoted c r n (Ended k a o m) ≡ false
  quiet_demotes (Fence node) = rw (q.no_success, and-false (node == n)) refl
  quiet_demotes (Probe leaf node) = rw (q.no_demotion, and-false (leaf == r && node == n)) refl
  quiet_demotes (Operation Stop leaf node interval role) = rw (q.no_success, and-false (leaf == r && node == n)) refl
  quiet_demotes (Operation Start leaf node interval role) = rw (q.no_success, and-false (leaf == r && node == n)) refl
  quiet_demotes (Operation Promote leaf node interval role) = refl
  quiet_demotes (Operation Demote leaf node interval role) = rw (q.no_success, and-false (leaf == r && node == n)) refl
  quiet_demotes (Operation Monitor leaf node interval role) = rw (q.no_late_demotion, and-false (leaf == r && node == n)) refl
  quiet_demotes (MigrateTo leaf source target) = refl
  quiet_demotes (MigrateFrom leaf source target) = refl
