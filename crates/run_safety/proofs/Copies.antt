-- No copy too many.
use Rattle.std.proofs.Common.{arith, inr, ◌≡◌, ◌<◌, ◌≤◌, ◌==◌, ◌||◌, nat_lt, if◌then◌else◌, ℕ, Bool, true, false, List, [], length, refl}
use Rattle.std.specs.Prelude.{Option, Some, IfSome}
use Rattle.std.proofs.lemmas.Bool.{both_ways, or_right, true_from_ne_false}
use Rattle.std.proofs.lemmas.Bool.Decides.{nat_tests}
use Rattle.lemmas.proofs.Booleans.{number_itself}
use Rattle.cluster_types.specs.declared.cluster.Cluster.{Cluster}
use Rattle.cluster_types.specs.declared.journal.Action.{Action}
use Rattle.cluster_types.specs.declared.journal.Action.TheVariants.{Fence, Probe, Operation, MigrateTo, MigrateFrom}
use Rattle.cluster_types.specs.declared.journal.Answer.{Answer}
use Rattle.cluster_types.specs.declared.journal.Event.{Event}
use Rattle.cluster_types.specs.declared.leaf.Op.TheVariants as op
use Rattle.cluster_types.specs.declared.leaf.Role.{Role}
use Rattle.cluster_types.specs.declared.leaf.Role.TheVariants as role
use Rattle.cluster_types.specs.declared.placement.Decision.TheVariants.{Place}
use Rattle.cluster_types.specs.Choice.{cap_of, is_stopped_role}
use Rattle.cluster_types.specs.Failures.{is_fail_stopped}
use Rattle.cluster_types.specs.Fields.{copies, target_role_of}
use Rattle.cluster_types.specs.Journals.{Orderly}
use Rattle.cluster_types.specs.LawfulTables.{role_count}
use Rattle.cluster_types.specs.May.{may_be_running}
use Rattle.cluster_types.specs.Precedence.{LeafOnNode, gives_any, op_cell}
use Rattle.cluster_types.specs.Rights.{may_start}
use Rattle.cluster_types.specs.Safety.{MayRunOnFewOthers, NoSecondCopy}
use Rattle.cluster_types.specs.Steps.{Transition, Begins, GoesBySteps, journal}
use Rattle.cluster_types.specs.Tables.{Targets, is_somewhere}
use Rattle.run_safety.proofs.Begins.{each_begin}
use Rattle.run_safety.proofs.Calm.{Calm}
use Rattle.run_safety.proofs.Carried.{Carries, IsSound}
use Rattle.run_safety.proofs.Counting.{others_fewer, all_counted}
use Rattle.run_safety.proofs.Elsewhere.{elsewhere_off}
use Rattle.run_safety.proofs.Leads.{Must, by_probe, by_stop, by_fence, by_demote}
use Rattle.run_safety.proofs.Needing.{succeeded}
use Rattle.run_safety.proofs.Placing.{IsGiven, given}

-- a cap is no more than the copies
pub cap_copies : (c : Cluster) (es : List Event) (r : ℕ) → cap_of c es (Place r) ≤ copies c r
cap_copies c es r = by (is_stopped_role (target_role_of c r) || is_fail_stopped c r es)
  where
    by : (b : Bool) → (if b then 0 else copies c r) ≤ copies c r
    by true = omega arith
    by false = omega arith

module _ (t : Transition) (targets : Targets) (carries : Carries t targets) (sound : IsSound t targets) (orderly : Orderly t.planned_at) where
  -- what comes before a start or a promote on another node
  pub record Precedes (r : ℕ) (a : Action) (m : ℕ) : Type 0 where
    pub probed : Must t (Probe r m) a
    pub stopped : Must t (Operation op.Stop r m 0 role.Started) a
    pub fenced : Must t (Fence m) a

  module _ (since : List Event) (k : ℕ) (a : Action) (calm : Calm t since) (begins : Begins t since k a) (at : LeafOnNode) (gives : gives_any a ≡ Some at) where
    pub is_given : IsGiven t.cluster t.planned_at targets at.leaf at.node
    is_given = given t.cluster t.planned_at targets a at (carries.needed k a begins.action) gives

    pub is_able : may_start t.cluster t.planned_at ≡ true
    is_able = sound.may_start a (carries.needed k a begins.action) (rw gives refl)

    pub targeted : (m : ℕ) → m < length t.cluster.nodes → Precedes at.leaf a m → may_be_running t.cluster at.leaf m (journal t since) ≡ true → is_somewhere (targets at.leaf m) ≡ true
    targeted m low first on =
        true_from_ne_false (is_somewhere (targets at.leaf m)) (λ nowhere.
        both_ways (may_be_running t.cluster at.leaf m (journal t since))
        (elsewhere_off t targets carries at.leaf m nowhere since calm is_given.leaf low is_given.free orderly (inr is_able)
        (succeeded t targets carries since k (Probe at.leaf m) a begins first.probed)
        (succeeded t targets carries since k (Operation op.Stop at.leaf m 0 role.Started) a begins first.stopped)
        (succeeded t targets carries since k (Fence m) a begins first.fenced)) on)

    adds_none : (nat_lt (copies t.cluster at.leaf) (length t.cluster.nodes) ≡ true → (m : ℕ) → Precedes at.leaf a m) → MayRunOnFewOthers t.cluster at (journal t since)
    adds_none first = by (nat_lt (copies t.cluster at.leaf) (length t.cluster.nodes)) refl
      where
        by : (few : Bool) → nat_lt (copies t.cluster at.leaf) (length t.cluster.nodes) ≡ few → MayRunOnFewOthers t.cluster at (journal t since)
        by true e =
            let counted = others_fewer (λ m. may_be_running t.cluster at.leaf m (journal t since)) (λ m. is_somewhere (targets at.leaf m)) at.node (length t.cluster.nodes) is_given.node
            is_given.somewhere (λ m low other on. targeted m low (first e m) on) in
            let capped : role_count t.cluster t.planned_at targets at.leaf role.Started ≤ cap_of t.cluster t.planned_at (Place at.leaf) = sound.lawful.copies at.leaf is_given.leaf is_given.free in
            let within = cap_copies t.cluster t.planned_at at.leaf in
            omega (arith, counted, capped, within)
        by false e =
            let counted = others_fewer (λ m. may_be_running t.cluster at.leaf m (journal t since)) (λ m. true) at.node (length t.cluster.nodes) is_given.node refl (λ m low other on. refl) in
            let all = all_counted 0 (length t.cluster.nodes) in
            let enough : length t.cluster.nodes ≤ copies t.cluster at.leaf = grind (arith, nat_tests) in
            omega (arith, counted, all, enough)

module _ (t : Transition) (targets : Targets) (carries : Carries t targets) (sound : IsSound t targets) (orderly : Orderly t.planned_at) where
  before_start : (r n i : ℕ) (held : Role) → nat_lt (copies t.cluster r) (length t.cluster.nodes) ≡ true → (m : ℕ) → Precedes t targets carries sound orderly r (Operation op.Start r n i held) m
  before_start r n i held few m = record {
    probed = by_probe t (Probe r m) (Operation op.Start r n i held) (number_itself r);
    stopped = by_stop t (Operation op.Stop r m 0 role.Started) (Operation op.Start r n i held) (rw (number_itself r) (rw few (or_right (m == n) true refl)));
    fenced = by_fence t (Fence m) (Operation op.Start r n i held) refl;
  }

  pub before_promote : (r n i : ℕ) (held : Role) (m : ℕ) → Precedes t targets carries sound orderly r (Operation op.Promote r n i held) m
  before_promote r n i held m = record {
    probed = by_probe t (Probe r m) (Operation op.Promote r n i held) (number_itself r);
    stopped = by_demote t (Operation op.Stop r m 0 role.Started) (Operation op.Promote r n i held) (number_itself r);
    fenced = by_fence t (Fence m) (Operation op.Promote r n i held) refl;
  }

  -- at each begin
  no_copy : (since : List Event) (k : ℕ) (a : Action) → Calm t since → Begins t since k a
      → IfSome (op_cell op.Start a) (λ at. MayRunOnFewOthers t.cluster at (journal t since)) × IfSome (op_cell op.Promote a) (λ at. MayRunOnFewOthers t.cluster at (journal t since))
  no_copy since k (Operation op.Start r n i held) calm begins =
      (adds_none t targets carries sound orderly since k (Operation op.Start r n i held) calm begins (record { leaf = r; node = n }) refl (before_start r n i held), tt)
  no_copy since k (Operation op.Promote r n i held) calm begins =
      (tt, adds_none t targets carries sound orderly since k (Operation op.Promote r n i held) calm begins (record { leaf = r; node = n }) refl (λ few m. before_promote r n i held m))
  no_copy since k (Operation op.Stop r n i held) calm begins = (tt, tt)
  no_copy since k (Operation op.Demote r n i held) calm begins = (tt, tt)
  no_copy since k (Operation op.Monitor r n i held) calm begins = (tt, tt)
  no_copy since k (Fence n) calm begins = (tt, tt)
  no_copy since k (Probe r n) calm begins = (tt, tt)
  no_copy since k (MigrateTo r n m) calm begins = (tt, tt)
  no_copy since k (MigrateFrom r n m) calm begins = (tt, tt)

  pub no_second_copy : (whole : Bool) (rest left : Option (List Answer)) (later : List Event) → GoesBySteps t whole [] rest later left → NoSecondCopy t later
  no_second_copy = each_begin t (λ before k a. IfSome (op_cell op.Start a) (λ at. MayRunOnFewOthers t.cluster at (journal t before)) × IfSome (op_cell op.Promote a) (λ at. MayRunOnFewOthers t.cluster at (journal t before))) no_copy
