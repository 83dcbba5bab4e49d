-- Once all have succeeded, it isn't left open what runs where a leaf has a target.
use Rattle.std.proofs.Common.{inl, inr, ◌⊎◌, ◌≡◌, ◌<◌, ◌≤◌, ◌==◌, ℕ, Bool, true, false, List, [], ◌∷◌, ◌++◌, length, refl, sym, subst}
use Rattle.std.specs.Prelude.{Some}
use Rattle.std.proofs.lemmas.Bool.{false_from_ne_true, ne_eqb}
use Rattle.lemmas.proofs.Booleans.{sooner}
use Rattle.cluster_types.specs.declared.journal.Action.{Action}
use Rattle.cluster_types.specs.declared.journal.Action.TheVariants.{Fence, Probe, Operation, MigrateTo, MigrateFrom}
use Rattle.cluster_types.specs.declared.journal.Event.{Event}
use Rattle.cluster_types.specs.declared.journal.Event.TheVariants.{Begin}
use Rattle.cluster_types.specs.declared.leaf.Op.TheVariants as op
use Rattle.cluster_types.specs.declared.leaf.Role.TheVariants as role
use Rattle.cluster_types.specs.declared.states.CellState.{CellState}
use Rattle.cluster_types.specs.declared.states.CellState.TheVariants as cell
use Rattle.cluster_types.specs.CellStates.{is_unclear}
use Rattle.cluster_types.specs.Cells.{is_sent_to, is_same_cell}
use Rattle.cluster_types.specs.Journals.{Orderly}
use Rattle.cluster_types.specs.May.{may_be_running}
use Rattle.cluster_types.specs.NeededActions.{NeededBeforeMigration, fence, probe, step, monitor, Migrates, kept, sent, taken_in, runs}
use Rattle.cluster_types.specs.NodeStates.{is_online}
use Rattle.cluster_types.specs.Pins.{is_pinned}
use Rattle.cluster_types.specs.Steps.{Transition, action_at, has_succeeded, journal}
use Rattle.cluster_types.specs.Tables.{Targets, is_somewhere}
use Rattle.cluster_types.specs.Valid.{IsValid}
use Rattle.plan_laws.proofs.CellStates.{says_of}
use Rattle.run_safety.proofs.Calm.{Calm}
use Rattle.run_safety.proofs.Carried.{HasNumber, Carries, IsSound}
use Rattle.run_safety.proofs.Leads.{Must, by_migration}
use Rattle.run_safety.proofs.LeftOpen.{is_sending_from, IsSure, sure_begun, sure_done, sure_waited, sure_turned}
use Rattle.run_safety.proofs.Migrations.{one_target}
use Rattle.run_safety.proofs.Needing.{state, IsNeeded}
use Rattle.run_safety.proofs.Running.{How, by_start, by_taking, stays, how}
use Rattle.run_safety.proofs.RunsAt.{done}
use Rattle.run_safety.proofs.Takers.{MigratesHere, migrates_here}
use Rattle.run_safety.proofs.Truths.{one_cell, other_fails, refuse, own_cell}
use Rattle.run_safety.proofs.Turning.{turned, unturned}

module _ (t : Transition) (targets : Targets) (carries : Carries t targets) (sound : IsSound t targets) (orderly : Orderly t.planned_at) (valid : IsValid t.cluster)
    (since : List Event) (calm : Calm t since) (all : (k : ℕ) → 0 < k → k ≤ length t.actions → has_succeeded t since k ≡ true)
    (r n : ℕ) (h : r < length t.cluster.leaves) (l : n < length t.cluster.nodes) (online : is_online t.cluster n t.planned_at ≡ true)
    (free : is_pinned t.cluster t.planned_at r ≡ false) (somewhere : is_somewhere (targets r n) ≡ true) where
  -- what is needed sends the leaf away from no cell where it has a target
  stays_here : (y : Action) → IsNeeded t targets y → is_sending_from r n y ≡ false
  stays_here _ (sent s from m g) = by (is_same_cell r n s from) refl
    where
      by : (b : Bool) → is_same_cell r n s from ≡ b → is_same_cell r n s from ≡ false
      by false e = e
      by true e =
          let same = one_cell r n s from e in
          let mine : Migrates t.cluster t.planned_at targets r n m =
          subst (λ z. Migrates t.cluster t.planned_at targets z n m) same.0 (subst (λ z. Migrates t.cluster t.planned_at targets s z m) same.1 g) in
          refuse (is_somewhere (targets r n))
          (one_target t targets carries sound valid r n m mine n l (ne_eqb n m (λ e. mine.elsewhere (sym e)))) somewhere
  stays_here _ (taken_in s from m g) = refl
  stays_here y (kept _ f others) = of_first y f
    where
      of_first : (y : Action) → NeededBeforeMigration t.cluster t.planned_at targets y → is_sending_from r n y ≡ false
      of_first _ (fence m l g) = refl
      of_first _ (probe s m k l g) = refl
      of_first _ (step s m o k l g) = refl
      of_first _ (monitor s m w k l has g) = refl

  module _ (none : MigratesHere t targets carries r n → ⊥) where
    not_sent : (y : Action) → IsNeeded t targets y → is_sent_to r n y ≡ false
    not_sent y needs = false_from_ne_true (is_sent_to r n y) (λ e. none (migrates_here t targets carries r n y needs e))

    sure_of_start : IsNeeded t targets (Operation op.Start r n 0 role.Started) → is_unclear t.cluster r n (journal t since) ≡ false
    sure_of_start needed =
        let number : HasNumber t (Operation op.Start r n 0 role.Started) = carries.numbered (Operation op.Start r n 0 role.Started) needed in
        turned t (IsSure t.cluster r n) number.number (Operation op.Start r n 0 role.Started) number.is
        (λ es o m ok. sure_turned t.cluster r n es number.number m (Operation op.Start r n 0 role.Started) o ok (own_cell r n) refl refl)
        (λ es j y is sure. inr (sure_begun t.cluster r n es j y (not_sent y (carries.needed j y is)) sure))
        (λ es j m y o is ok sure. inr (sure_done t.cluster r n es j m y o ok (stays_here y (carries.needed j y is)) sure))
        (λ es s sure. sure_waited t.cluster r n es s sure) since calm (done t targets carries sound orderly since calm all (Operation op.Start r n 0 role.Started) number)

    sure_of_staying : is_unclear t.cluster r n t.planned_at ≡ false → is_unclear t.cluster r n (journal t since) ≡ false
    sure_of_staying was =
        unturned t (IsSure t.cluster r n) (λ es j y is sure. sure_begun t.cluster r n es j y (not_sent y (carries.needed j y is)) sure)
        (λ es j m y o is ok sure. sure_done t.cluster r n es j m y o ok (stays_here y (carries.needed j y is)) sure)
        (λ es s sure. sure_waited t.cluster r n es s sure) since calm was

  -- a start is needed only where no migration comes
  not_started : IsNeeded t targets (Operation op.Start r n 0 role.Started) → MigratesHere t targets carries r n → ⊥
  not_started needed here = of (Operation op.Start r n 0 role.Started) needed refl
    where
      of : (y : Action) → IsNeeded t targets y → y ≡ Operation op.Start r n 0 role.Started → ⊥
      of y (kept _ f others) e = others r here.from n here.migrates e
      of _ (sent s from m g) e = let f : ⊥ = cc in f
      of _ (taken_in s from m g) e = let f : ⊥ = cc in f

  sure_of_taking : MigratesHere t targets carries r n → is_unclear t.cluster r n (journal t since) ≡ false
  sure_of_taking here =
      turned t (IsSure t.cluster r n) number.number (MigrateFrom r here.from n) number.is
      (λ es o m ok. sure_turned t.cluster r n es number.number m (MigrateFrom r here.from n) o ok (own_cell r n) refl refl)
      (λ es j y is sure. begins es j y is sure (is_sent_to r n y) refl)
      (λ es j m y o is ok sure. inr (sure_done t.cluster r n es j m y o ok (stays_here y (carries.needed j y is)) sure))
      (λ es s sure. sure_waited t.cluster r n es s sure) since calm (done t targets carries sound orderly since calm all (MigrateFrom r here.from n) number)
    where
      number : HasNumber t (MigrateFrom r here.from n)
      number = carries.numbered (MigrateFrom r here.from n) (taken_in r here.from n here.migrates)

      leads : (y : Action) → is_sent_to r n y ≡ true → Must t y (MigrateFrom r here.from n)
      leads (MigrateTo s from m) e = by_migration t (MigrateTo s from m) (MigrateFrom r here.from n) (sooner (s == r) (m == n) e)
      leads (Fence m) e = cc
      leads (Probe s m) e = cc
      leads (Operation o s m i held) e = cc
      leads (MigrateFrom s from m) e = cc

      begins : (es : List Event) (j : ℕ) (y : Action) → action_at t j ≡ Some y → IsSure t.cluster r n es → (b : Bool) → is_sent_to r n y ≡ b
          → (t.precedes j number.number ≡ true) ⊎ IsSure t.cluster r n (es ++ Begin j y ∷ [])
      begins es j y is sure false e = inr (sure_begun t.cluster r n es j y e sure)
      begins es j y is sure true e = inl (carries.precede j number.number y (MigrateFrom r here.from n) is number.is (leads y e))

  pub sure_there : is_unclear t.cluster r n (journal t since) ≡ false
  sure_there = by (how t targets carries sound r n h l online somewhere)
    where
      was : may_be_running t.cluster r n t.planned_at ≡ true → (s : CellState) → state t r n ≡ s → runs s ≡ true → is_unclear t.cluster r n t.planned_at ≡ false
      was on cell.On e g = (says_of t.cluster r n t.planned_at cell.On e).5
      was on cell.Promoted e g =
          other_fails (may_be_running t.cluster r n t.planned_at) (is_unclear t.cluster r n t.planned_at) on (says_of t.cluster r n t.planned_at cell.Promoted e).3
      was on cell.Off e g = cc
      was on cell.Away e g = cc
      was on cell.Unprobed e g = cc
      was on cell.Blocked e g = cc
      was on cell.Failed e g = cc

      by : How t targets carries sound r n h l online somewhere → is_unclear t.cluster r n (journal t since) ≡ false
      by (by_start needed) = sure_of_start (not_started needed) needed
      by (by_taking here) = sure_of_taking here
      by (stays on probed never (inl pinned)) = refuse (is_pinned t.cluster t.planned_at r) free pinned
      by (stays on probed never (inr running)) =
          sure_of_staying (λ here. refuse (may_be_running t.cluster r n t.planned_at) (here.migrates.nowhere_else n l here.migrates.elsewhere) on)
          (was on (state t r n) refl running)
