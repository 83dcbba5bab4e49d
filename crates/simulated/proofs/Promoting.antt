-- Where a cell is promoted after an action has ended, the end opens it for promoted, or it was promoted before and the end doesn't close it.
use Rattle.std.proofs.Common.{◌≡◌, ℕ, ◌==◌, ◌&&◌, Bool, true, false, if◌then◌else◌, [], ◌∷◌, ◌⊎◌, inl, inr, refl, eqb-true}
use Rattle.std.proofs.lemmas.Bool.{and_parts}
use Rattle.std.proofs.Math.Bool.{and-false}
use Rattle.cluster_types.specs.declared.cluster.Cluster.{Cluster}
use Rattle.cluster_types.specs.declared.journal.Action.{Action}
use Rattle.cluster_types.specs.declared.journal.Action.TheVariants.{Fence, Probe, Operation, MigrateTo, MigrateFrom}
use Rattle.cluster_types.specs.declared.journal.Event.{Event}
use Rattle.cluster_types.specs.declared.journal.Event.TheVariants.{Ended}
use Rattle.cluster_types.specs.declared.journal.Outcome.{Outcome}
use Rattle.cluster_types.specs.declared.journal.Outcome.TheVariants.{Code, TimedOut}
use Rattle.cluster_types.specs.declared.leaf.Op.TheVariants.{Start, Stop, Promote, Demote, Monitor}
use Rattle.cluster_types.specs.declared.leaf.Role.{Role}
use Rattle.cluster_types.specs.Cells.{is_same_cell}
use Rattle.cluster_types.specs.Fields.{is_promotable}
use Rattle.cluster_types.specs.May.{closes_promoted, opens_promoted}
use Rattle.cluster_types.specs.Outcomes.{is_code_among}
use Rattle.simulated.specs.declared.real.Real.{Real}
use Rattle.simulated.specs.declared.real.Real.TheVariants as real
use Rattle.simulated.specs.RealWorlds.{Cells, after_op, demoted, done, found_at, given_up, is_cell, is_really_promoted, is_there, code_of_look, rising_from, true_code, undone, with_changed_cell, without_node}
use Rattle.simulated.proofs.Quiet.{IsQuiet, failed, late, quiet_demotes}
use Rattle.simulated.proofs.Running.{found_there}

-- one that is promoted isn't found otherwise
shows_promoted : (x : Real) → is_really_promoted x ≡ true
    → (is_code_among (0 ∷ 190 ∷ 7 ∷ 5 ∷ []) (Code (code_of_look x)) ≡ false) × (is_code_among (0 ∷ 190 ∷ 7 ∷ []) (Code (code_of_look x)) ≡ false)
shows_promoted real.Off h = cc
shows_promoted real.Rising h = cc
shows_promoted real.Started h = cc
shows_promoted real.Promoted h = (refl, refl)

none_demoted : (x : Real) → is_really_promoted (demoted x) ≡ false
none_demoted real.Off = refl
none_demoted real.Rising = refl
none_demoted real.Started = refl
none_demoted real.Promoted = refl

as_before : (x : Real) → is_really_promoted (rising_from x) ≡ is_really_promoted x
as_before real.Off = refl
as_before real.Rising = refl
as_before real.Started = refl
as_before real.Promoted = refl

module _ (c : Cluster) (cells : Cells) (r n k m : ℕ) (cell : is_cell c r n ≡ true) where
  abbrev pub StaysPromoted : Real → Event → Type 0
  StaysPromoted y e =
      is_really_promoted y ≡ true
      → ((is_promotable c r ≡ true) × (opens_promoted c r n e ≡ true)) ⊎ ((is_really_promoted (cells r n) ≡ true) × (closes_promoted c r n e ≡ false))

  quiet_stays : (a : Action) (o : Outcome) → IsQuiet o → StaysPromoted (cells r n) (Ended k a o m)
  quiet_stays a o q h = inr (h, quiet_demotes c r n k m o q a)

  fence_stays : (node : ℕ) (o : Outcome) → StaysPromoted (without_node node cells r n) (Ended k (Fence node) o m)
  fence_stays node o = on (node == n) refl where
    on : (t : Bool) → (node == n) ≡ t → StaysPromoted (if t then real.Off else cells r n) (Ended k (Fence node) o m)
    on true e h = cc
    on false e h = inr (h, rw e refl)

  -- an operation that leaves nothing promoted in its cell
  ended_stays : (leaf node : ℕ) (change : Real → Real) (e : Event) → ((x : Real) → is_really_promoted (change x) ≡ false)
      → (is_same_cell r n leaf node ≡ false → closes_promoted c r n e ≡ false) → StaysPromoted (with_changed_cell leaf node change cells r n) e
  ended_stays leaf node change e none other = on (is_same_cell r n leaf node) refl where
    on : (t : Bool) → is_same_cell r n leaf node ≡ t → StaysPromoted (if t then change (cells r n) else cells r n) e
    on true t h = let no = none (cells r n) in cc
    on false t h = inr (h, other t)

  promote_stays : (leaf node interval : ℕ) (role : Role) (o : Outcome)
      → StaysPromoted (with_changed_cell leaf node (λ x. if is_promotable c leaf then real.Promoted else real.Started) cells r n) (Ended k (Operation Promote leaf node interval role) o m)
  promote_stays leaf node interval role o = on (is_same_cell r n leaf node) refl where
    may : (t : Bool) → is_really_promoted (if t then real.Promoted else real.Started) ≡ true → t ≡ true
    may true h = refl
    may false h = cc

    on : (t : Bool) → is_same_cell r n leaf node ≡ t
        → StaysPromoted (if t then (if is_promotable c leaf then real.Promoted else real.Started) else cells r n) (Ended k (Operation Promote leaf node interval role) o m)
    on true e h =
        let here : leaf ≡ r = eqb-true leaf r (and_parts (leaf == r) (node == n) e).0 in
        inl (rw (← here) (may (is_promotable c leaf) h), rw e refl)
    on false e h = inr (h, refl)

  emptied : (leaf node : ℕ) (some : Bool) (e : Event) → closes_promoted c r n e ≡ false
      → StaysPromoted ((if some then with_changed_cell leaf node (λ x. real.Off) cells else cells) r n) e
  emptied leaf node false e shut h = inr (h, shut)
  emptied leaf node true e shut h = on (is_same_cell r n leaf node) h where
    on : (t : Bool) → is_really_promoted (if t then real.Off else cells r n) ≡ true
        → ((is_promotable c r ≡ true) × (opens_promoted c r n e ≡ true)) ⊎ ((is_really_promoted (cells r n) ≡ true) × (closes_promoted c r n e ≡ false))
    on true i = cc
    on false i = inr (i, shut)

  -- a probe or a monitor that looks
  look_stays : (leaf node : ℕ) (e : Event) → (is_same_cell r n leaf node ≡ false → closes_promoted c r n e ≡ false)
      → (is_same_cell r n leaf node ≡ true → (is_code_among (0 ∷ 190 ∷ 7 ∷ 5 ∷ []) (Code (code_of_look (found_at c cells leaf node))) ≡ false)
      × (is_code_among (0 ∷ 190 ∷ 7 ∷ []) (Code (code_of_look (found_at c cells leaf node))) ≡ false) → closes_promoted c r n e ≡ false) → StaysPromoted (cells r n) e
  look_stays leaf node e other here h = on (is_same_cell r n leaf node) refl where
    on : (t : Bool) → is_same_cell r n leaf node ≡ t
        → ((is_promotable c r ≡ true) × (opens_promoted c r n e ≡ true)) ⊎ ((is_really_promoted (cells r n) ≡ true) × (closes_promoted c r n e ≡ false))
    on false t = inr (h, other t)
    on true t = inr (h, here t (rw (found_there c cells r n leaf node cell t) (shows_promoted (cells r n) h)))

  probe_stays : (leaf node : ℕ) → StaysPromoted (cells r n) (Ended k (Probe leaf node) (Code (code_of_look (found_at c cells leaf node))) m)
  probe_stays leaf node = look_stays leaf node (Ended k (Probe leaf node) (Code (code_of_look (found_at c cells leaf node))) m) (λ t. rw t refl) (λ t q. rw (q.0, and-false (leaf == r && node == n)) refl)

  monitor_stays : (leaf node interval : ℕ) (role : Role)
      → StaysPromoted (cells r n) (Ended k (Operation Monitor leaf node interval role) (Code (code_of_look (found_at c cells leaf node))) m)
  monitor_stays leaf node interval role =
      look_stays leaf node (Ended k (Operation Monitor leaf node interval role) (Code (code_of_look (found_at c cells leaf node))) m) (λ t. rw t refl) (λ t q. rw (q.1, and-false (leaf == r && node == n)) refl)

  unchanged : (leaf node : ℕ) (change : Real → Real) (e : Event) → ((x : Real) → is_really_promoted (change x) ≡ is_really_promoted x) → StaysPromoted (cells r n) e
      → StaysPromoted (with_changed_cell leaf node change cells r n) e
  unchanged leaf node change e same s = on (is_same_cell r n leaf node) where
    on : (t : Bool) → StaysPromoted (if t then change (cells r n) else cells r n) e
    on true h = s (let is = same (cells r n) in cc)
    on false h = s h

  pub true_stays : (a : Action) → StaysPromoted (done c a cells r n) (Ended k a (Code (true_code c a cells)) m)
  true_stays (Fence node) = fence_stays node (Code (true_code c (Fence node) cells))
  true_stays (Probe leaf node) = probe_stays leaf node
  true_stays (Operation Start leaf node interval role) = ended_stays leaf node (after_op c Start leaf) (Ended k (Operation Start leaf node interval role) (Code (true_code c (Operation Start leaf node interval role) cells)) m) (λ x. refl) (λ t. rw t refl)
  true_stays (Operation Stop leaf node interval role) = ended_stays leaf node (after_op c Stop leaf) (Ended k (Operation Stop leaf node interval role) (Code (true_code c (Operation Stop leaf node interval role) cells)) m) (λ x. refl) (λ t. rw t refl)
  true_stays (Operation Promote leaf node interval role) = promote_stays leaf node interval role (Code (true_code c (Operation Promote leaf node interval role) cells))
  true_stays (Operation Demote leaf node interval role) = ended_stays leaf node (after_op c Demote leaf) (Ended k (Operation Demote leaf node interval role) (Code (true_code c (Operation Demote leaf node interval role) cells)) m) none_demoted (λ t. rw t refl)
  true_stays (Operation Monitor leaf node interval role) = unchanged leaf node (after_op c Monitor leaf) (Ended k (Operation Monitor leaf node interval role) (Code (true_code c (Operation Monitor leaf node interval role) cells)) m) (λ x. refl) (monitor_stays leaf node interval role)
  true_stays (MigrateTo leaf source target) = emptied leaf source (is_there (found_at c cells leaf target)) (Ended k (MigrateTo leaf source target) (Code (true_code c (MigrateTo leaf source target) cells)) m) refl
  true_stays (MigrateFrom leaf source target) = λ h. inr (h, refl)

  pub bad_stays : (a : Action) → StaysPromoted (done c a cells r n) (Ended k a (Code 1) m)
  bad_stays (Fence node) = fence_stays node (Code 1)
  bad_stays (Probe leaf node) = quiet_stays (Probe leaf node) (Code 1) failed
  bad_stays (Operation Start leaf node interval role) = ended_stays leaf node (after_op c Start leaf) (Ended k (Operation Start leaf node interval role) (Code 1) m) (λ x. refl) (λ t. rw t refl)
  bad_stays (Operation Stop leaf node interval role) = ended_stays leaf node (after_op c Stop leaf) (Ended k (Operation Stop leaf node interval role) (Code 1) m) (λ x. refl) (λ t. rw t refl)
  bad_stays (Operation Promote leaf node interval role) = promote_stays leaf node interval role (Code 1)
  bad_stays (Operation Demote leaf node interval role) = ended_stays leaf node (after_op c Demote leaf) (Ended k (Operation Demote leaf node interval role) (Code 1) m) none_demoted (λ t. rw t refl)
  bad_stays (Operation Monitor leaf node interval role) = unchanged leaf node (after_op c Monitor leaf) (Ended k (Operation Monitor leaf node interval role) (Code 1) m) (λ x. refl) (quiet_stays (Operation Monitor leaf node interval role) (Code 1) failed)
  bad_stays (MigrateTo leaf source target) = emptied leaf source (is_there (found_at c cells leaf target)) (Ended k (MigrateTo leaf source target) (Code 1) m) refl
  bad_stays (MigrateFrom leaf source target) = quiet_stays (MigrateFrom leaf source target) (Code 1) failed

  pub undone_stays : (a : Action) → StaysPromoted (undone c a cells r n) (Ended k a (Code 1) m)
  undone_stays (Fence node) = quiet_stays (Fence node) (Code 1) failed
  undone_stays (Probe leaf node) = quiet_stays (Probe leaf node) (Code 1) failed
  undone_stays (Operation op leaf node interval role) = quiet_stays (Operation op leaf node interval role) (Code 1) failed
  undone_stays (MigrateTo leaf source target) = emptied leaf target (is_there (found_at c cells leaf source)) (Ended k (MigrateTo leaf source target) (Code 1) m) refl
  undone_stays (MigrateFrom leaf source target) = quiet_stays (MigrateFrom leaf source target) (Code 1) failed

  pub late_stays : (a : Action) → StaysPromoted (given_up c a cells r n) (Ended k a TimedOut m)
  late_stays (Fence node) = quiet_stays (Fence node) TimedOut late
  late_stays (Probe leaf node) = quiet_stays (Probe leaf node) TimedOut late
  late_stays (Operation Start leaf node interval role) = unchanged leaf node rising_from (Ended k (Operation Start leaf node interval role) TimedOut m) as_before (quiet_stays (Operation Start leaf node interval role) TimedOut late)
  late_stays (Operation Stop leaf node interval role) = quiet_stays (Operation Stop leaf node interval role) TimedOut late
  late_stays (Operation Promote leaf node interval role) = quiet_stays (Operation Promote leaf node interval role) TimedOut late
  late_stays (Operation Demote leaf node interval role) = quiet_stays (Operation Demote leaf node interval role) TimedOut late
  late_stays (Operation Monitor leaf node interval role) = quiet_stays (Operation Monitor leaf node interval role) TimedOut late
  late_stays (MigrateTo leaf source target) = emptied leaf target (is_there (found_at c cells leaf source)) (Ended k (MigrateTo leaf source target) TimedOut m) refl
  late_stays (MigrateFrom leaf source target) = quiet_stays (MigrateFrom leaf source target) TimedOut late
