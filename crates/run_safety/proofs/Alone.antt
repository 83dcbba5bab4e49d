-- At each begin of a migration its leaf may run on its source alone, or on its source and its target.
use Rattle.std.proofs.Common.{◌≡◌, ◌<◌, ◌==◌, ℕ, Bool, true, false, List, [], length, eqb-true, refl, sym, subst}
use Rattle.std.specs.Prelude.{Option}
use Rattle.lemmas.proofs.Booleans.{number_itself}
use Rattle.cluster_types.specs.declared.journal.Action.{Action}
use Rattle.cluster_types.specs.declared.journal.Action.TheVariants.{Fence, Probe, Operation, MigrateTo, MigrateFrom}
use Rattle.cluster_types.specs.declared.journal.Answer.{Answer}
use Rattle.cluster_types.specs.declared.journal.Event.{Event}
use Rattle.cluster_types.specs.May.{may_be_running}
use Rattle.cluster_types.specs.NeededActions.{Migrates}
use Rattle.cluster_types.specs.Safety.{HasItsLeafAlone, MigrationsAlone}
use Rattle.cluster_types.specs.Steps.{Transition, Begins, GoesBySteps, journal}
use Rattle.cluster_types.specs.Tables.{Targets}
use Rattle.cluster_types.specs.Valid.{IsValid}
use Rattle.plan_laws.proofs.NeededActions.{migrates_by_sent, migrates_by_taken}
use Rattle.run_safety.proofs.Begins.{each_begin}
use Rattle.run_safety.proofs.Calm.{Calm}
use Rattle.run_safety.proofs.Carried.{Carries, IsSound}
use Rattle.run_safety.proofs.Migrations.{on_no_third}
use Rattle.run_safety.proofs.Sending.{not_there_yet}
use Rattle.run_safety.proofs.Truths.{refuse}

module _ (t : Transition) (targets : Targets) (carries : Carries t targets) (sound : IsSound t targets) (valid : IsValid t.cluster) where
  sending_alone : (since : List Event) (k r n to : ℕ) → Calm t since → Begins t since k (MigrateTo r n to) → HasItsLeafAlone t.cluster (MigrateTo r n to) (journal t since)
  sending_alone since k r n to calm begins m low not_source = by (m == to) refl
    where
      g : Migrates t.cluster t.planned_at targets r n to
      g = migrates_by_sent t.cluster t.planned_at targets r n to (carries.needed k (MigrateTo r n to) begins.action)

      by : (b : Bool) → (m == to) ≡ b → may_be_running t.cluster r m (journal t since) ≡ false
      by false e = on_no_third t targets carries sound valid r n to g since calm m low not_source (λ same. refuse (m == to) e (subst (λ z. (m == z) ≡ true) same (number_itself m)))
      by true e =
          let same = eqb-true m to e in
          subst (λ z. may_be_running t.cluster r z (journal t since) ≡ false) (sym same) (not_there_yet t targets carries sound valid r n to g since k calm begins (subst (λ z. z < length t.cluster.nodes) same low))

  migrates_alone : (since : List Event) (k : ℕ) (a : Action) → Calm t since → Begins t since k a → HasItsLeafAlone t.cluster a (journal t since)
  migrates_alone since k (MigrateTo r n to) calm begins = sending_alone since k r n to calm begins
  migrates_alone since k (MigrateFrom r n to) calm begins =
      λ m low not_source not_target.
      on_no_third t targets carries sound valid r n to (migrates_by_taken t.cluster t.planned_at targets r n to (carries.needed k (MigrateFrom r n to) begins.action)) since calm m low not_source not_target
  migrates_alone since k (Fence n) calm begins = tt
  migrates_alone since k (Probe r n) calm begins = tt
  migrates_alone since k (Operation o r n i h) calm begins = tt

  pub migrations_alone : (whole : Bool) (rest left : Option (List Answer)) (later : List Event) → GoesBySteps t whole [] rest later left → MigrationsAlone t later
  migrations_alone = each_begin t (λ before k a. HasItsLeafAlone t.cluster a (journal t before)) migrates_alone
