-- Where a cell runs after an action has ended, the end opens it, or it ran before and the end doesn't close it.
use Rattle.std.proofs.Common.{◌≡◌, ℕ, ◌==◌, ◌&&◌, Bool, true, false, if◌then◌else◌, [], ◌∷◌, ◌⊎◌, inl, inr, refl, eqb-true}
use Rattle.std.proofs.lemmas.Bool.{and_parts}
use Rattle.std.proofs.Math.Bool.{and-false}
use Rattle.cluster_types.specs.declared.cluster.Cluster.{Cluster}
use Rattle.cluster_types.specs.declared.journal.Action.{Action}
use Rattle.cluster_types.specs.declared.journal.Action.TheVariants.{Fence, Probe, Operation, MigrateTo, MigrateFrom}
use Rattle.cluster_types.specs.declared.journal.Event.{Event}
use Rattle.cluster_types.specs.declared.journal.Event.TheVariants.{Ended}
use Rattle.cluster_types.specs.declared.journal.Outcome.{Outcome}
use Rattle.cluster_types.specs.declared.journal.Outcome.TheVariants.{Code, TimedOut}
use Rattle.cluster_types.specs.declared.leaf.Op.TheVariants.{Start, Stop, Promote, Demote, Monitor}
use Rattle.cluster_types.specs.declared.leaf.Role.{Role}
use Rattle.cluster_types.specs.Cells.{is_same_cell}
use Rattle.cluster_types.specs.May.{closes, opens}
use Rattle.cluster_types.specs.Outcomes.{is_code_among}
use Rattle.simulated.specs.declared.real.Real.{Real}
use Rattle.simulated.specs.declared.real.Real.TheVariants as real
use Rattle.simulated.specs.RealWorlds.{Cells, after_op, done, found_at, given_up, is_cell, is_there, code_of_look, rising_from, true_code, undone, with_changed_cell, without_node}
use Rattle.simulated.proofs.Quiet.{IsQuiet, failed, late, quiet_closes}

-- what is found in a cell of the cluster is what is there
pub found_there : (c : Cluster) (cells : Cells) (r n leaf node : ℕ) → is_cell c r n ≡ true → is_same_cell r n leaf node ≡ true → found_at c cells leaf node ≡ cells r n
found_there c cells r n leaf node cell same =
    let parts = and_parts (leaf == r) (node == n) same in
    let here : leaf ≡ r = eqb-true leaf r parts.0 in
    let there : node ≡ n = eqb-true node n parts.1 in
    rw (here, there) (rw cell refl)

-- one that runs isn't found stopped
pub shows_running : (x : Real) → is_there x ≡ true → (is_code_among (7 ∷ 5 ∷ []) (Code (code_of_look x)) ≡ false) × (is_code_among (7 ∷ []) (Code (code_of_look x)) ≡ false)
shows_running real.Off h = cc
shows_running real.Rising h = (refl, refl)
shows_running real.Started h = (refl, refl)
shows_running real.Promoted h = (refl, refl)

module _ (c : Cluster) (cells : Cells) (r n k m : ℕ) (cell : is_cell c r n ≡ true) where
  abbrev pub Stays : Real → Event → Type 0
  Stays y e = is_there y ≡ true → (opens c r n e ≡ true) ⊎ ((is_there (cells r n) ≡ true) × (closes c r n e ≡ false))

  quiet_stays : (a : Action) (o : Outcome) → IsQuiet o → Stays (cells r n) (Ended k a o m)
  quiet_stays a o q h = inr (h, quiet_closes c r n k m o q a)

  -- an end of a kind that closes no cell
  harmless : (a : Action) (o : Outcome) → closes c r n (Ended k a o m) ≡ false → Stays (cells r n) (Ended k a o m)
  harmless a o shut h = inr (h, shut)

  fence_stays : (node : ℕ) (o : Outcome) → Stays (without_node node cells r n) (Ended k (Fence node) o m)
  fence_stays node o = on (node == n) refl where
    on : (t : Bool) → (node == n) ≡ t → Stays (if t then real.Off else cells r n) (Ended k (Fence node) o m)
    on true e h = cc
    on false e h = inr (h, rw e refl)

  start_stays : (leaf node interval : ℕ) (role : Role) (o : Outcome) (change : Real → Real)
      → Stays (with_changed_cell leaf node change cells r n) (Ended k (Operation Start leaf node interval role) o m)
  start_stays leaf node interval role o change = on (is_same_cell r n leaf node) refl where
    on : (t : Bool) → is_same_cell r n leaf node ≡ t → Stays (if t then change (cells r n) else cells r n) (Ended k (Operation Start leaf node interval role) o m)
    on true e h = inl (rw e refl)
    on false e h = inr (h, refl)

  promote_stays : (leaf node interval : ℕ) (role : Role) (o : Outcome) (change : Real → Real)
      → Stays (with_changed_cell leaf node change cells r n) (Ended k (Operation Promote leaf node interval role) o m)
  promote_stays leaf node interval role o change = on (is_same_cell r n leaf node) refl where
    on : (t : Bool) → is_same_cell r n leaf node ≡ t → Stays (if t then change (cells r n) else cells r n) (Ended k (Operation Promote leaf node interval role) o m)
    on true e h = inl (rw e refl)
    on false e h = inr (h, refl)

  demote_stays : (leaf node interval : ℕ) (role : Role) (o : Outcome) (change : Real → Real)
      → Stays (with_changed_cell leaf node change cells r n) (Ended k (Operation Demote leaf node interval role) o m)
  demote_stays leaf node interval role o change = on (is_same_cell r n leaf node) refl where
    on : (t : Bool) → is_same_cell r n leaf node ≡ t → Stays (if t then change (cells r n) else cells r n) (Ended k (Operation Demote leaf node interval role) o m)
    on true e h = inl (rw e refl)
    on false e h = inr (h, refl)

  stop_stays : (leaf node interval : ℕ) (role : Role) (o : Outcome)
      → Stays (with_changed_cell leaf node (λ x. real.Off) cells r n) (Ended k (Operation Stop leaf node interval role) o m)
  stop_stays leaf node interval role o = on (is_same_cell r n leaf node) refl where
    on : (t : Bool) → is_same_cell r n leaf node ≡ t → Stays (if t then real.Off else cells r n) (Ended k (Operation Stop leaf node interval role) o m)
    on true e h = cc
    on false e h = inr (h, rw e refl)

  -- one of the two cells of a migration is stopped, or none
  emptied : (leaf node : ℕ) (some : Bool) (e : Event) → closes c r n e ≡ false
      → Stays ((if some then with_changed_cell leaf node (λ x. real.Off) cells else cells) r n) e
  emptied leaf node false e shut h = inr (h, shut)
  emptied leaf node true e shut h = on (is_same_cell r n leaf node) h where
    on : (t : Bool) → is_there (if t then real.Off else cells r n) ≡ true → (opens c r n e ≡ true) ⊎ ((is_there (cells r n) ≡ true) × (closes c r n e ≡ false))
    on true i = cc
    on false i = inr (i, shut)

  -- a probe or a monitor that looks
  look_stays : (leaf node : ℕ) (e : Event) → (is_same_cell r n leaf node ≡ false → closes c r n e ≡ false)
      → (is_same_cell r n leaf node ≡ true → (is_code_among (7 ∷ 5 ∷ []) (Code (code_of_look (found_at c cells leaf node))) ≡ false)
      × (is_code_among (7 ∷ []) (Code (code_of_look (found_at c cells leaf node))) ≡ false) → closes c r n e ≡ false) → Stays (cells r n) e
  look_stays leaf node e other here h = on (is_same_cell r n leaf node) refl where
    on : (t : Bool) → is_same_cell r n leaf node ≡ t → (opens c r n e ≡ true) ⊎ ((is_there (cells r n) ≡ true) × (closes c r n e ≡ false))
    on false t = inr (h, other t)
    on true t = inr (h, here t (rw (found_there c cells r n leaf node cell t) (shows_running (cells r n) h)))

  probe_stays : (leaf node : ℕ) → Stays (cells r n) (Ended k (Probe leaf node) (Code (code_of_look (found_at c cells leaf node))) m)
  probe_stays leaf node = look_stays leaf node (Ended k (Probe leaf node) (Code (code_of_look (found_at c cells leaf node))) m) (λ t. rw t refl) (λ t q. rw (q.0, and-false (leaf == r && node == n)) refl)

  monitor_stays : (leaf node interval : ℕ) (role : Role)
      → Stays (cells r n) (Ended k (Operation Monitor leaf node interval role) (Code (code_of_look (found_at c cells leaf node))) m)
  monitor_stays leaf node interval role =
      look_stays leaf node (Ended k (Operation Monitor leaf node interval role) (Code (code_of_look (found_at c cells leaf node))) m) (λ t. rw t refl) (λ t q. rw (q.1, and-false (leaf == r && node == n)) refl)

  unchanged : (leaf node : ℕ) (e : Event) → Stays (cells r n) e → Stays (with_changed_cell leaf node (λ x. x) cells r n) e
  unchanged leaf node e s = on (is_same_cell r n leaf node) where
    on : (t : Bool) → Stays (if t then cells r n else cells r n) e
    on true = s
    on false = s

  -- so each end: true, or done and said to have failed, or not done, or not in time
  pub true_stays : (a : Action) → Stays (done c a cells r n) (Ended k a (Code (true_code c a cells)) m)
  true_stays (Fence node) = fence_stays node (Code (true_code c (Fence node) cells))
  true_stays (Probe leaf node) = probe_stays leaf node
  true_stays (Operation Start leaf node interval role) = start_stays leaf node interval role (Code (true_code c (Operation Start leaf node interval role) cells)) (after_op c Start leaf)
  true_stays (Operation Stop leaf node interval role) = stop_stays leaf node interval role (Code (true_code c (Operation Stop leaf node interval role) cells))
  true_stays (Operation Promote leaf node interval role) = promote_stays leaf node interval role (Code (true_code c (Operation Promote leaf node interval role) cells)) (after_op c Promote leaf)
  true_stays (Operation Demote leaf node interval role) = demote_stays leaf node interval role (Code (true_code c (Operation Demote leaf node interval role) cells)) (after_op c Demote leaf)
  true_stays (Operation Monitor leaf node interval role) = unchanged leaf node (Ended k (Operation Monitor leaf node interval role) (Code (true_code c (Operation Monitor leaf node interval role) cells)) m) (monitor_stays leaf node interval role)
  true_stays (MigrateTo leaf source target) = emptied leaf source (is_there (found_at c cells leaf target)) (Ended k (MigrateTo leaf source target) (Code (true_code c (MigrateTo leaf source target) cells)) m) refl
  true_stays (MigrateFrom leaf source target) = harmless (MigrateFrom leaf source target) (Code (true_code c (MigrateFrom leaf source target) cells)) refl

  pub bad_stays : (a : Action) → Stays (done c a cells r n) (Ended k a (Code 1) m)
  bad_stays (Fence node) = fence_stays node (Code 1)
  bad_stays (Probe leaf node) = quiet_stays (Probe leaf node) (Code 1) failed
  bad_stays (Operation Start leaf node interval role) = start_stays leaf node interval role (Code 1) (after_op c Start leaf)
  bad_stays (Operation Stop leaf node interval role) = stop_stays leaf node interval role (Code 1)
  bad_stays (Operation Promote leaf node interval role) = promote_stays leaf node interval role (Code 1) (after_op c Promote leaf)
  bad_stays (Operation Demote leaf node interval role) = demote_stays leaf node interval role (Code 1) (after_op c Demote leaf)
  bad_stays (Operation Monitor leaf node interval role) = unchanged leaf node (Ended k (Operation Monitor leaf node interval role) (Code 1) m) (quiet_stays (Operation Monitor leaf node interval role) (Code 1) failed)
  bad_stays (MigrateTo leaf source target) = emptied leaf source (is_there (found_at c cells leaf target)) (Ended k (MigrateTo leaf source target) (Code 1) m) refl
  bad_stays (MigrateFrom leaf source target) = quiet_stays (MigrateFrom leaf source target) (Code 1) failed

  pub undone_stays : (a : Action) → Stays (undone c a cells r n) (Ended k a (Code 1) m)
  undone_stays (Fence node) = quiet_stays (Fence node) (Code 1) failed
  undone_stays (Probe leaf node) = quiet_stays (Probe leaf node) (Code 1) failed
  undone_stays (Operation op leaf node interval role) = quiet_stays (Operation op leaf node interval role) (Code 1) failed
  undone_stays (MigrateTo leaf source target) = emptied leaf target (is_there (found_at c cells leaf source)) (Ended k (MigrateTo leaf source target) (Code 1) m) refl
  undone_stays (MigrateFrom leaf source target) = quiet_stays (MigrateFrom leaf source target) (Code 1) failed

  pub late_stays : (a : Action) → Stays (given_up c a cells r n) (Ended k a TimedOut m)
  late_stays (Fence node) = quiet_stays (Fence node) TimedOut late
  late_stays (Probe leaf node) = quiet_stays (Probe leaf node) TimedOut late
  late_stays (Operation Start leaf node interval role) = start_stays leaf node interval role TimedOut rising_from
  late_stays (Operation Stop leaf node interval role) = quiet_stays (Operation Stop leaf node interval role) TimedOut late
  late_stays (Operation Promote leaf node interval role) = quiet_stays (Operation Promote leaf node interval role) TimedOut late
  late_stays (Operation Demote leaf node interval role) = quiet_stays (Operation Demote leaf node interval role) TimedOut late
  late_stays (Operation Monitor leaf node interval role) = quiet_stays (Operation Monitor leaf node interval role) TimedOut late
  late_stays (MigrateTo leaf source target) = emptied leaf target (is_there (found_at c cells leaf source)) (Ended k (MigrateTo leaf source target) TimedOut m) refl
  late_stays (MigrateFrom leaf source target) = quiet_stays (MigrateFrom leaf source target) TimedOut late
