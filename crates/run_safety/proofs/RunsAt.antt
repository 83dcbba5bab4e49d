-- Once all have succeeded, a leaf may run on an online node just where it has a target.
use Rattle.std.proofs.Common.{inl, inr, ◌⊎◌, ◌≡◌, ◌<◌, ◌≤◌, ℕ, Bool, true, false, List, [], ◌∷◌, ◌++◌, length, refl, subst}
use Rattle.std.specs.Prelude.{Some}
use Rattle.lemmas.proofs.Booleans.{number_itself}
use Rattle.cluster_types.specs.declared.journal.Action.{Action}
use Rattle.cluster_types.specs.declared.journal.Action.TheVariants.{Fence, Probe, Operation, MigrateTo, MigrateFrom}
use Rattle.cluster_types.specs.declared.journal.Event.{Event}
use Rattle.cluster_types.specs.declared.journal.Event.TheVariants.{Ended}
use Rattle.cluster_types.specs.declared.leaf.Op.TheVariants as op
use Rattle.cluster_types.specs.declared.leaf.Role.TheVariants as role
use Rattle.cluster_types.specs.Journals.{Orderly}
use Rattle.cluster_types.specs.May.{may_be_running}
use Rattle.cluster_types.specs.NeededActions.{Migrates, sent, taken_in}
use Rattle.cluster_types.specs.NodeStates.{is_online}
use Rattle.cluster_types.specs.Pins.{is_unprobed_state}
use Rattle.cluster_types.specs.Steps.{Transition, action_at, has_begun, has_succeeded, journal}
use Rattle.cluster_types.specs.Tables.{Targets, is_somewhere}
use Rattle.plan_laws.proofs.CellSteps.{is_step}
use Rattle.run_safety.proofs.Calm.{Calm}
use Rattle.run_safety.proofs.Carried.{HasNumber, Carries, IsSound}
use Rattle.run_safety.proofs.Effects.{on_begun, on_done, on_waited, on_turned}
use Rattle.run_safety.proofs.InFlight.{number_within}
use Rattle.run_safety.proofs.Leads.{Must, by_probe, by_stop, by_migration}
use Rattle.run_safety.proofs.Needing.{Done, state, IsNeeded}
use Rattle.run_safety.proofs.Neighbours.{runs_not}
use Rattle.run_safety.proofs.Preceded.{preceded, succeeded_begun}
use Rattle.run_safety.proofs.Running.{How, by_start, by_taking, stays, how}
use Rattle.run_safety.proofs.Takers.{GetsStop, Takes, is_probe, is_stop, takes_needs, running_may, MigratesHere}
use Rattle.run_safety.proofs.Touching.{takes_run}
use Rattle.run_safety.proofs.Truths.{refuse}
use Rattle.run_safety.proofs.Turning.{turned, turned_when, unturned}

module _ (t : Transition) (targets : Targets) (carries : Carries t targets) (sound : IsSound t targets) (orderly : Orderly t.planned_at)
    (since : List Event) (calm : Calm t since) (all : (k : ℕ) → 0 < k → k ≤ length t.actions → has_succeeded t since k ≡ true) where
  pub done : (x : Action) → Done t since x
  done x number = let within = number_within t.actions number.number x number.is in all number.number within.0 within.1

  -- a probe of a leaf comes before the taking in, since it comes before the sending
  pub probe_before_taking : (r n from j k : ℕ) → Migrates t.cluster t.planned_at targets r from n → action_at t j ≡ Some (Probe r n) → action_at t k ≡ Some (MigrateFrom r from n)
      → (so_far : List Event) → Calm t so_far → has_begun t so_far k ≡ true → has_succeeded t so_far j ≡ true
  probe_before_taking r n from j k g asks takes_in so_far calm begun =
      let sending : HasNumber t (MigrateTo r from n) = carries.numbered (MigrateTo r from n) (sent r from n g) in
      let sends = by_migration t (MigrateTo r from n) (MigrateFrom r from n) (number_itself r) in
      let probes = by_probe t (Probe r n) (MigrateTo r from n) (number_itself r) in
      let low = number_within t.actions sending.number (MigrateTo r from n) sending.is in
      let high = number_within t.actions j (Probe r n) asks in
      let sent = preceded t so_far k sending.number calm begun low.0 low.1 (carries.precede sending.number k (MigrateTo r from n) (MigrateFrom r from n) sending.is takes_in sends) in
      preceded t so_far sending.number j calm (succeeded_begun t so_far sending.number calm sent) high.0 high.1
      (carries.precede j sending.number (Probe r n) (MigrateTo r from n) asks sending.is probes)

  module _ (r n : ℕ) (h : r < length t.cluster.leaves) (l : n < length t.cluster.nodes) (online : is_online t.cluster n t.planned_at ≡ true) where
    abbrev IsOn : List Event → Type 0
    IsOn es = may_be_running t.cluster r n es ≡ true

    taken_or_not : (R : Type 0) (j : ℕ) (y : Action) → action_at t j ≡ Some y → (takes_run r n y ≡ false → R) → (Takes t targets carries r n y → R) → R
    taken_or_not R j y is still takes = by (takes_run r n y) refl
      where
        by : (b : Bool) → takes_run r n y ≡ b → R
        by false e = still e
        by true e = takes (takes_needs t targets carries r n online y (carries.needed j y is) e)

    started : IsNeeded t targets (Operation op.Start r n 0 role.Started) → IsOn (journal t since)
    started needed =
        turned t IsOn number.number x number.is (λ es o m ok. on_turned t.cluster r n es number.number m x o (rw (number_itself r) (rw (number_itself n) refl)))
        (λ es j y is on. inr (on_begun t.cluster r n es j y on))
        (λ es j m y o is ok on. taken_or_not ((t.precedes j number.number ≡ true) ⊎ IsOn (es ++ Ended j y o m ∷ [])) j y is
        (λ e. inr (on_done t.cluster r n es j m y o ok e on)) (λ takes. inl (first j y is takes)))
        (λ es s on. on_waited t.cluster r n es s on) since calm (done x number)
      where
        x : Action
        x = Operation op.Start r n 0 role.Started

        number : HasNumber t (Operation op.Start r n 0 role.Started)
        number = carries.numbered (Operation op.Start r n 0 role.Started) needed

        precedes : (j : ℕ) (y z : Action) → action_at t j ≡ Some y → y ≡ z → Must t z (Operation op.Start r n 0 role.Started) → t.precedes j number.number ≡ true
        precedes j y z is same must = carries.precede j number.number z (Operation op.Start r n 0 role.Started) (subst (λ w. action_at t j ≡ Some w) same is) number.is must

        first : (j : ℕ) (y : Action) → action_at t j ≡ Some y → Takes t targets carries r n y → t.precedes j number.number ≡ true
        first j y is (is_probe same u) = precedes j y (Probe r n) is same (by_probe t (Probe r n) (Operation op.Start r n 0 role.Started) (number_itself r))
        first j y is (is_stop same g) =
            precedes j y (Operation op.Stop r n 0 role.Started) is same
            (by_stop t (Operation op.Stop r n 0 role.Started) (Operation op.Start r n 0 role.Started) (rw (number_itself r) (rw (number_itself n) refl)))

    taken_there : MigratesHere t targets carries r n → IsOn (journal t since)
    taken_there here =
        turned_when t IsOn number.number (MigrateFrom r here.from n) number.is (λ j. action_at t j ≡ Some (Probe r n))
        (λ j is so_far quiet begun. probe_before_taking r n here.from j number.number here.migrates is number.is so_far quiet begun)
        (λ es o m ok. on_turned t.cluster r n es number.number m (MigrateFrom r here.from n) o (rw (number_itself r) (rw (number_itself n) refl)))
        (λ es j y is on. inr (on_begun t.cluster r n es j y on))
        (λ es j m y o is ok on. taken_or_not ((action_at t j ≡ Some (Probe r n)) ⊎ IsOn (es ++ Ended j y o m ∷ [])) j y is
        (λ e. inr (on_done t.cluster r n es j m y o ok e on)) (λ takes. first (IsOn (es ++ Ended j y o m ∷ [])) j y is takes))
        (λ es s on. on_waited t.cluster r n es s on) since calm (done (MigrateFrom r here.from n) number)
      where
        number : HasNumber t (MigrateFrom r here.from n)
        number = carries.numbered (MigrateFrom r here.from n) (taken_in r here.from n here.migrates)

        first : (R : Type 0) (j : ℕ) (y : Action) → action_at t j ≡ Some y → Takes t targets carries r n y → (action_at t j ≡ Some (Probe r n)) ⊎ R
        first R j y is (is_probe same u) = inl (subst (λ w. action_at t j ≡ Some w) same is)
        first R j y is (is_stop same g) =
            refuse (may_be_running t.cluster r n t.planned_at) (here.migrates.nowhere_else n l here.migrates.elsewhere)
            (running_may t targets carries r n (is_step t.cluster t.planned_at targets r n op.Stop g).fitting)

    stayed : may_be_running t.cluster r n t.planned_at ≡ true → is_unprobed_state (state t r n) ≡ false → (GetsStop t targets carries r n → ⊥) → IsOn (journal t since)
    stayed on probed never =
        unturned t IsOn (λ es j y is was. on_begun t.cluster r n es j y was)
        (λ es j m y o is ok was. on_done t.cluster r n es j m y o ok (taken_or_not (takes_run r n y ≡ false) j y is (λ e. e) (none y)) was)
        (λ es s was. on_waited t.cluster r n es s was) since calm on
      where
        none : (y : Action) → Takes t targets carries r n y → takes_run r n y ≡ false
        none y (is_probe same u) = refuse (is_unprobed_state (state t r n)) probed u
        none y (is_stop same g) = absurd (never g)

    on_where_targeted : is_somewhere (targets r n) ≡ true → IsOn (journal t since)
    on_where_targeted somewhere = by (how t targets carries sound r n h l online somewhere)
      where
        by : How t targets carries sound r n h l online somewhere → IsOn (journal t since)
        by (by_start needed) = started needed
        by (by_taking here) = taken_there here
        by (stays on probed never why) = stayed on probed never

    pub runs_as_targeted : may_be_running t.cluster r n (journal t since) ≡ is_somewhere (targets r n)
    runs_as_targeted = by (is_somewhere (targets r n)) refl
      where
        by : (b : Bool) → is_somewhere (targets r n) ≡ b → may_be_running t.cluster r n (journal t since) ≡ is_somewhere (targets r n)
        by true e = rw e (on_where_targeted e)
        by false e = rw e (runs_not t targets carries sound orderly since calm r n h l online (done (Probe r n)) (done (Operation op.Stop r n 0 role.Started)) (done (Fence n)) e)
