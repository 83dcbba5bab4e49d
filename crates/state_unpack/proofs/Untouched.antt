-- An event that tells nothing of a cell leaves it as it is.
use Rattle.std.proofs.Common.{◌≡◌, ℕ, Bool, false, refl}
use Rattle.std.proofs.lemmas.Bool.{or_parts}
use Rattle.cluster_types.specs.declared.cluster.Cluster.{Cluster}
use Rattle.cluster_types.specs.declared.journal.Action.{Action}
use Rattle.cluster_types.specs.declared.journal.Action.TheVariants.{Fence, Probe, Operation, MigrateTo, MigrateFrom}
use Rattle.cluster_types.specs.declared.journal.Event.{Event}
use Rattle.cluster_types.specs.declared.journal.Event.TheVariants.{Up, Down, Lost, Cleanup, Begin, Ended}
use Rattle.cluster_types.specs.declared.leaf.Op.TheVariants.{Start, Stop, Promote, Demote, Monitor}
use Rattle.cluster_types.specs.Cells.{is_same_cell, is_of_cell, is_reset}
use Rattle.cluster_types.specs.CellStates.{begins_sending_to, changes_cell, ends_monitors, is_end_of_monitor}
use Rattle.cluster_types.specs.Failures.{is_outcome}
use Rattle.cluster_types.specs.May.{opens_cell, closes_cell, promotes_cell, demotes_cell, takes_out}
use Rattle.state_unpack.specs.Inner.Touching.{action_touches, touches}

module _ (r n : ℕ) where
  -- each thing that an event may tell of a cell
  pub no_reset : (e : Event) → touches r n e ≡ false → is_reset r n e ≡ false
  no_reset (Up node) q = q
  no_reset (Cleanup leaf node) q = q
  no_reset _ q = refl

  not_of_cell : (a : Action) → action_touches r n a ≡ false → is_of_cell r n a ≡ false
  not_of_cell (Fence node) q = refl
  not_of_cell (Probe leaf node) q = q
  not_of_cell (Operation op leaf node interval role) q = q
  not_of_cell (MigrateTo leaf source target) q = (or_parts (is_same_cell r n leaf source) (is_same_cell r n leaf target) q).0
  not_of_cell (MigrateFrom leaf source target) q = (or_parts (is_same_cell r n leaf source) (is_same_cell r n leaf target) q).1

  pub no_outcome : (c : Cluster) (e : Event) → touches r n e ≡ false → is_outcome c r n e ≡ false
  no_outcome c (Ended k a o moment) q = rw (not_of_cell a q) refl
  no_outcome c _ q = refl

  pub no_sending : (e : Event) → touches r n e ≡ false → begins_sending_to r n e ≡ false
  no_sending (Begin k (MigrateTo leaf source target)) q = (or_parts (is_same_cell r n leaf source) (is_same_cell r n leaf target) q).1
  no_sending _ q = refl

  no_change : (a : Action) → action_touches r n a ≡ false → changes_cell r n a ≡ false
  no_change (Fence node) q = refl
  no_change (Probe leaf node) q = refl
  no_change (Operation Monitor leaf node interval role) q = refl
  no_change (Operation Start leaf node interval role) q = q
  no_change (Operation Stop leaf node interval role) q = q
  no_change (Operation Promote leaf node interval role) q = q
  no_change (Operation Demote leaf node interval role) q = q
  no_change (MigrateTo leaf source target) q = not_of_cell (MigrateTo leaf source target) q
  no_change (MigrateFrom leaf source target) q = not_of_cell (MigrateFrom leaf source target) q

  pub no_end : (e : Event) → touches r n e ≡ false → ends_monitors r n e ≡ false
  no_end (Begin k a) q = no_change a q
  no_end (Ended k a o moment) q = no_change a q
  no_end (Up node) q = q
  no_end (Cleanup leaf node) q = q
  no_end _ q = refl

  pub no_answer : (interval : ℕ) (e : Event) → touches r n e ≡ false → is_end_of_monitor r n interval e ≡ false
  no_answer interval (Ended k (Operation Monitor leaf node ms role) o moment) q = rw q refl
  no_answer interval _ q = refl

  pub no_opening : (e : Event) → touches r n e ≡ false → opens_cell r n e ≡ false
  no_opening (Up node) q = q
  no_opening (Begin k (Operation Start leaf node interval role)) q = q
  no_opening (Begin k (Operation Promote leaf node interval role)) q = q
  no_opening (Begin k (Operation Demote leaf node interval role)) q = q
  no_opening (Begin k (MigrateTo leaf source target)) q = (or_parts (is_same_cell r n leaf source) (is_same_cell r n leaf target) q).1
  no_opening (Begin k (MigrateFrom leaf source target)) q = (or_parts (is_same_cell r n leaf source) (is_same_cell r n leaf target) q).1
  no_opening (Ended k (Operation Start leaf node interval role) o moment) q = q
  no_opening (Ended k (Operation Promote leaf node interval role) o moment) q = q
  no_opening (Ended k (Operation Demote leaf node interval role) o moment) q = q
  no_opening (Ended k (Operation Monitor leaf node interval role) o moment) q = rw q refl
  no_opening (Ended k (Probe leaf node) o moment) q = rw q refl
  no_opening (Ended k (MigrateFrom leaf source target) o moment) q = (or_parts (is_same_cell r n leaf source) (is_same_cell r n leaf target) q).1
  no_opening _ q = refl

  pub no_closing : (e : Event) → touches r n e ≡ false → closes_cell r n e ≡ false
  no_closing (Ended k (Operation Stop leaf node interval role) o moment) q = rw q refl
  no_closing (Ended k (Operation Monitor leaf node interval role) o moment) q = rw q refl
  no_closing (Ended k (Probe leaf node) o moment) q = rw q refl
  no_closing _ q = refl

  pub no_promotion : (e : Event) → touches r n e ≡ false → promotes_cell r n e ≡ false
  no_promotion (Up node) q = q
  no_promotion (Begin k (Operation Promote leaf node interval role)) q = q
  no_promotion (Ended k (Operation Promote leaf node interval role) o moment) q = q
  no_promotion (Ended k (Operation Monitor leaf node interval role) o moment) q = rw q refl
  no_promotion (Ended k (Probe leaf node) o moment) q = rw q refl
  no_promotion _ q = refl

  pub no_demotion : (e : Event) → touches r n e ≡ false → demotes_cell r n e ≡ false
  no_demotion (Ended k (Operation Start leaf node interval role) o moment) q = rw q refl
  no_demotion (Ended k (Operation Stop leaf node interval role) o moment) q = rw q refl
  no_demotion (Ended k (Operation Demote leaf node interval role) o moment) q = rw q refl
  no_demotion (Ended k (Operation Monitor leaf node interval role) o moment) q = rw q refl
  no_demotion (Ended k (Probe leaf node) o moment) q = rw q refl
  no_demotion _ q = refl

  pub stays_in : (fencing : Bool) (e : Event) → touches r n e ≡ false → takes_out fencing n e ≡ false
  stays_in fencing (Down node) q = q
  stays_in fencing (Lost node) q = rw q refl
  stays_in fencing (Ended k (Fence node) o moment) q = rw q refl
  stays_in fencing _ q = refl
