-- Where a migration sends, its leaf may not run on its target yet.
use Rattle.std.proofs.Common.{inl, inr, ◌⊎◌, ◌≡◌, ◌<◌, ◌==◌, ℕ, Bool, true, false, List, [], ◌∷◌, ◌++◌, length, eqb-true, refl, sym, subst, ap}
use Rattle.std.specs.Prelude.{Option, Some, None}
use Rattle.std.specs.Option.{option_map_or}
use Rattle.std.proofs.lemmas.Bool.{and_from}
use Rattle.lemmas.proofs.Booleans.{number_itself}
use Rattle.cluster_types.specs.declared.journal.Action.{Action}
use Rattle.cluster_types.specs.declared.journal.Action.TheVariants.{Operation, MigrateTo, MigrateFrom}
use Rattle.cluster_types.specs.declared.journal.Event.{Event}
use Rattle.cluster_types.specs.declared.journal.Event.TheVariants.{Begin, Ended}
use Rattle.cluster_types.specs.declared.leaf.Op.{Op}
use Rattle.cluster_types.specs.declared.leaf.Op.TheVariants as op
use Rattle.cluster_types.specs.declared.leaf.Role.TheVariants as role
use Rattle.cluster_types.specs.declared.states.CellState.TheVariants as cell
use Rattle.cluster_types.specs.Fields.{is_promotable}
use Rattle.cluster_types.specs.May.{may_be_running}
use Rattle.cluster_types.specs.NeededActions.{NeededBeforeMigration, fence, probe, step, monitor, Migrates, Needed, kept, sent, taken_in}
use Rattle.cluster_types.specs.Steps.{Transition, Begins, action_at, has_begun, journal}
use Rattle.cluster_types.specs.Tables.{Targets}
use Rattle.cluster_types.specs.Valid.{IsValid}
use Rattle.cluster_types.proofs.NeededLaws.{bounds_of_first}
use Rattle.cluster_types.proofs.StepLaws.{not_begun}
use Rattle.plan_laws.proofs.CellStates.{says_of}
use Rattle.plan_laws.proofs.CellSteps.{IsStep, is_step, is_promoted_state}
use Rattle.run_safety.proofs.Calm.{Calm}
use Rattle.run_safety.proofs.Carried.{HasNumber, Carries, IsSound}
use Rattle.run_safety.proofs.Effects.{off_begun, off_done, off_waited}
use Rattle.run_safety.proofs.Givers.{promoted_gives}
use Rattle.run_safety.proofs.InFlight.{number_within}
use Rattle.run_safety.proofs.Leads.{Must, by_migration}
use Rattle.run_safety.proofs.Migrations.{never_promoted, on_target}
use Rattle.run_safety.proofs.Needing.{state}
use Rattle.run_safety.proofs.Placing.{IsGiven}
use Rattle.run_safety.proofs.Preceded.{preceded, succeeded_begun}
use Rattle.run_safety.proofs.Touching.{gives_run}
use Rattle.run_safety.proofs.Truths.{one_cell, refuse}
use Rattle.run_safety.proofs.Turning.{kept as stays_kept}

module _ (t : Transition) (targets : Targets) (carries : Carries t targets) (sound : IsSound t targets) (valid : IsValid t.cluster) where
  module _ (r n to : ℕ) (g : Migrates t.cluster t.planned_at targets r n to) where
    -- what gives the leaf to the target: the sending itself, or it comes after the sending or after the taking in
    pub data Comes (y : Action) : Type 0 where
      is_it : y ≡ MigrateTo r n to → Comes y
      after_sending : Must t (MigrateTo r n to) y → Comes y
      after_taking : Must t (MigrateFrom r n to) y → Comes y

    there : IsGiven t.cluster t.planned_at targets r to
    there = on_target t targets carries sound valid r n to g

    plain : {R : Type 0} → is_promotable t.cluster r ≡ true → R
    plain h = refuse (is_promotable t.cluster r) g.not_promotable h

    step_comes : (s m : ℕ) (o : Op) → IsStep t.cluster t.planned_at targets s m o → Needed t.cluster t.planned_at targets (Operation o s m 0 role.Started)
        → (Operation o s m 0 role.Started ≡ Operation op.Start r to 0 role.Started → ⊥) → gives_run r to (Operation o s m 0 role.Started) ≡ true → Comes (Operation o s m 0 role.Started)
    step_comes s m op.Start is needs other h =
        let same = one_cell r to s m h in
        let leaf : s ≡ r = same.0 in
        let node : m ≡ to = same.1 in
        absurd (other (subst (λ z. Operation op.Start z m 0 role.Started ≡ Operation op.Start r to 0 role.Started) (sym leaf) (ap (λ z. Operation op.Start r z 0 role.Started) node)))
    step_comes s m op.Promote is needs other h = plain (sound.promotable r to there.leaf there.node (promoted_gives t.cluster t.planned_at targets r to (Operation op.Promote s m 0 role.Started) needs h))
    step_comes s m op.Demote is needs other h =
        let same = one_cell r to s m h in
        let promoted : is_promoted_state (state t r to) ≡ true =
        subst (λ z. is_promoted_state (state t z to) ≡ true) same.0 (subst (λ z. is_promoted_state (state t s z) ≡ true) same.1 is.fitting) in
        refuse (is_promoted_state (state t r to)) (never_promoted t targets carries sound valid r n to g to) promoted
    step_comes s m op.Stop is needs other h = absurd (let f : ⊥ = cc in f)
    step_comes s m op.Monitor is needs other h = let none = is.fitting in absurd (let f : ⊥ = cc in f)

    first_comes : (y : Action) → NeededBeforeMigration t.cluster t.planned_at targets y → Needed t.cluster t.planned_at targets y → (y ≡ Operation op.Start r to 0 role.Started → ⊥)
        → gives_run r to y ≡ true → Comes y
    first_comes _ (fence m l e) needs other h = absurd (let f : ⊥ = cc in f)
    first_comes _ (probe s m k l e) needs other h = absurd (let f : ⊥ = cc in f)
    first_comes _ (step s m o k l gets) needs other h = step_comes s m o (is_step t.cluster t.planned_at targets s m o gets) needs other h
    first_comes _ (monitor s m w k l has watch) needs other h =
        let same = one_cell r to s m h in
        let leaf : (r == s) ≡ true = subst (λ z. (z == s) ≡ true) same.0 (number_itself s) in
        let node : (m == to) ≡ true = subst (λ z. (m == z) ≡ true) same.1 (number_itself m) in
        after_taking (by_migration t (MigrateFrom r n to) (Operation op.Monitor s m w.interval_ms w.role) (and_from (r == s) (m == to) leaf node))

    -- a leaf that migrates does so from one node
    one_source : (from m : ℕ) → Migrates t.cluster t.planned_at targets r from m → from ≡ n
    one_source from m other = by (from == n) refl
      where
        by : (b : Bool) → (from == n) ≡ b → from ≡ n
        by true e = eqb-true from n e
        by false e =
            let low = (bounds_of_first t.cluster t.planned_at targets op.Stop r from 0 role.Started other.stopped).1 in
            let on = (says_of t.cluster r from t.planned_at cell.On other.running).4 in
            refuse (may_be_running t.cluster r from t.planned_at) (g.nowhere_else from low (λ same. refuse (from == n) e (subst (λ z. (from == z) ≡ true) same (number_itself from)))) on

    comes : (y : Action) → Needed t.cluster t.planned_at targets y → gives_run r to y ≡ true → Comes y
    comes y (kept _ f others) h = first_comes y f (kept y f others) (others r n to g) h
    comes _ (sent s from m other) h =
        let same = one_cell r to s m h in
        let leaf : s ≡ r = same.0 in
        let node : m ≡ to = same.1 in
        let source : from ≡ n = one_source from m (subst (λ z. Migrates t.cluster t.planned_at targets z from m) leaf other) in
        is_it (subst (λ z. MigrateTo z from m ≡ MigrateTo r n to) (sym leaf) (subst (λ z. MigrateTo r z m ≡ MigrateTo r n to) (sym source) (ap (λ z. MigrateTo r n z) node)))
    comes _ (taken_in s from m other) h =
        let same = one_cell r to s m h in
        after_sending (by_migration t (MigrateTo r n to) (MigrateFrom s from m) (subst (λ z. (z == s) ≡ true) same.0 (number_itself s)))

    module _ (since : List Event) (k : ℕ) (calm : Calm t since) (begins : Begins t since k (MigrateTo r n to)) where
      -- what comes after something that hasn't begun hasn't begun
      later_too : (i j : ℕ) (x y : Action) → action_at t i ≡ Some x → action_at t j ≡ Some y → Must t x y → has_begun t since i ≡ false → has_begun t since j ≡ false
      later_too i j x y is_x is_y must fresh = by (has_begun t since j) refl
        where
          by : (b : Bool) → has_begun t since j ≡ b → has_begun t since j ≡ false
          by false e = e
          by true e =
              let within = number_within t.actions i x is_x in
              refuse (has_begun t since i) fresh (succeeded_begun t since i calm (preceded t since j i calm e within.0 within.1 (carries.precede i j x y is_x is_y must)))

      fresh : has_begun t since k ≡ false
      fresh = not_begun t since k begins.allowed

      not_yet : (j : ℕ) (y : Action) → action_at t j ≡ Some y → gives_run r to y ≡ true → has_begun t since j ≡ false
      not_yet j y is h = by (comes y (carries.needed j y is) h)
        where
          by : Comes y → has_begun t since j ≡ false
          by (is_it same) =
              let number : k ≡ j = carries.once k j (MigrateTo r n to) begins.action (subst (λ z. action_at t j ≡ Some z) same is) in
              subst (λ z. has_begun t since z ≡ false) number fresh
          by (after_sending must) = later_too k j (MigrateTo r n to) y begins.action is must fresh
          by (after_taking must) =
              let taking : HasNumber t (MigrateFrom r n to) = carries.numbered (MigrateFrom r n to) (taken_in r n to g) in
              let sends = by_migration t (MigrateTo r n to) (MigrateFrom r n to) (number_itself r) in
              later_too taking.number j (MigrateFrom r n to) y taking.is is must (later_too k taking.number (MigrateTo r n to) (MigrateFrom r n to) begins.action taking.is sends fresh)

      abbrev IsOff : List Event → Type 0
      IsOff es = may_be_running t.cluster r to es ≡ false

      abbrev late : ℕ → Bool
      late j = option_map_or (gives_run r to) (action_at t j) false

      held_back : (R : Type 0) (j : ℕ) (y : Action) → action_at t j ≡ Some y → (gives_run r to y ≡ false → R) → (late j ≡ true) ⊎ R
      held_back R j y is still = by (gives_run r to y) refl
        where
          by : (b : Bool) → gives_run r to y ≡ b → (late j ≡ true) ⊎ R
          by false e = inr (still e)
          by true e = inl (rw is e)

      late_fresh : (j : ℕ) → late j ≡ true → has_begun t since j ≡ false
      late_fresh j h = by (action_at t j) refl h
        where
          by : (o : Option Action) → action_at t j ≡ o → option_map_or (gives_run r to) o false ≡ true → has_begun t since j ≡ false
          by None e h = absurd (let f : ⊥ = cc in f)
          by (Some y) e h = not_yet j y e h

      pub not_there_yet : to < length t.cluster.nodes → may_be_running t.cluster r to (journal t since) ≡ false
      not_there_yet low =
          stays_kept t IsOff late
          (λ es j y is was. held_back (IsOff (es ++ Begin j y ∷ [])) j y is (λ e. off_begun t.cluster r to es j y e was))
          (λ es j m y o is ok was. held_back (IsOff (es ++ Ended j y o m ∷ [])) j y is (λ e. off_done t.cluster r to es j m y o ok e was))
          (λ es s was. off_waited t.cluster r to es s was) since calm late_fresh (g.nowhere_else to low g.elsewhere)
