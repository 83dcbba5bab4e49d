-- What is needed of an action that takes a leaf from a node, and whether a start is needed or a migration stands for it.
use Rattle.std.proofs.Common.{inl, inr, ◌⊎◌, ◌≡◌, ◌<◌, ◌+◌, ◌-◌, ◌==◌, ℕ, Bool, true, false, length, eqb-true, refl, sym, subst, ap}
use Rattle.std.specs.List.{list_any}
use Rattle.std.proofs.lemmas.Bool.{and_from}
use Rattle.lemmas.proofs.Booleans.{later, number_itself}
use Rattle.cluster_types.specs.declared.journal.Action.{Action}
use Rattle.cluster_types.specs.declared.journal.Action.TheVariants.{Probe, Operation, MigrateTo}
use Rattle.cluster_types.specs.declared.leaf.Op.{Op}
use Rattle.cluster_types.specs.declared.leaf.Op.TheVariants as op
use Rattle.cluster_types.specs.declared.leaf.Role.TheVariants as role
use Rattle.cluster_types.specs.declared.states.CellState.{CellState}
use Rattle.cluster_types.specs.declared.states.CellState.TheVariants as cell
use Rattle.cluster_types.specs.Cells.{is_sent_to}
use Rattle.cluster_types.specs.May.{may_be_running}
use Rattle.cluster_types.specs.NeededActions.{NeededBeforeMigration, fence, probe, step, monitor, Migrates, kept, sent, taken_in, GetsStep}
use Rattle.cluster_types.specs.NodeStates.{is_online, node_state}
use Rattle.cluster_types.specs.Pins.{is_unprobed_state}
use Rattle.cluster_types.specs.Rights.{may_fence}
use Rattle.cluster_types.specs.Steps.{Transition}
use Rattle.cluster_types.specs.Tables.{Targets}
use Rattle.cluster_types.specs.Terms.{is_active}
use Rattle.cluster_types.proofs.MayLaws.{may-promoted}
use Rattle.plan_laws.proofs.CellStates.{says_of}
use Rattle.run_safety.proofs.Carried.{Carries}
use Rattle.run_safety.proofs.Deciding.{find_one, find_none}
use Rattle.run_safety.proofs.Needing.{state, IsNeeded}
use Rattle.run_safety.proofs.Nodes.{unclean_offline}
use Rattle.run_safety.proofs.Planned.{number_of, place_of}
use Rattle.run_safety.proofs.Touching.{takes_run}
use Rattle.run_safety.proofs.Truths.{one_cell, refuse}

module _ (t : Transition) (targets : Targets) (carries : Carries t targets) (r n : ℕ) where
  abbrev pub GetsStop : Type 0
  GetsStop = GetsStep t.cluster t.planned_at targets r n op.Stop

  -- on an online node it is the probe of the cell, or its stop
  pub data Takes (y : Action) : Type 0 where
    is_probe : y ≡ Probe r n → is_unprobed_state (state t r n) ≡ true → Takes y
    is_stop : y ≡ Operation op.Stop r n 0 role.Started → GetsStop → Takes y

  step_takes : (s m : ℕ) (o : Op) → GetsStep t.cluster t.planned_at targets s m o → takes_run r n (Operation o s m 0 role.Started) ≡ true → Takes (Operation o s m 0 role.Started)
  step_takes s m op.Stop g h =
      let same = one_cell r n s m h in
      let leaf : s ≡ r = same.0 in
      let node : m ≡ n = same.1 in
      is_stop (subst (λ z. Operation op.Stop z m 0 role.Started ≡ Operation op.Stop r n 0 role.Started) (sym leaf) (ap (λ z. Operation op.Stop r z 0 role.Started) node))
      (subst (λ z. GetsStep t.cluster t.planned_at targets z n op.Stop) leaf (subst (λ z. GetsStep t.cluster t.planned_at targets s z op.Stop) node g))
  step_takes s m op.Start g h = absurd (let f : ⊥ = cc in f)
  step_takes s m op.Promote g h = absurd (let f : ⊥ = cc in f)
  step_takes s m op.Demote g h = absurd (let f : ⊥ = cc in f)
  step_takes s m op.Monitor g h = absurd (let f : ⊥ = cc in f)

  pub takes_needs : is_online t.cluster n t.planned_at ≡ true → (y : Action) → IsNeeded t targets y → takes_run r n y ≡ true → Takes y
  takes_needs online y (kept _ f others) h = of_first y f h
    where
      of_first : (y : Action) → NeededBeforeMigration t.cluster t.planned_at targets y → takes_run r n y ≡ true → Takes y
      of_first _ (fence m l due) h =
          let off : is_online t.cluster m t.planned_at ≡ false = unclean_offline (node_state t.cluster m t.planned_at) (later (may_fence t.cluster t.planned_at) _ due) in
          refuse (is_online t.cluster n t.planned_at) (subst (λ z. is_online t.cluster z t.planned_at ≡ false) (eqb-true m n h) off) online
      of_first _ (probe s m k l u) h =
          let same = one_cell r n s m h in
          let leaf : s ≡ r = same.0 in
          let node : m ≡ n = same.1 in
          is_probe (subst (λ z. Probe z m ≡ Probe r n) (sym leaf) (ap (λ z. Probe r z) node))
          (subst (λ z. is_unprobed_state (state t z n) ≡ true) leaf (subst (λ z. is_unprobed_state (state t s z) ≡ true) node u))
      of_first _ (step s m o k l g) h = step_takes s m o g h
      of_first _ (monitor s m w k l has needs) h = absurd (let f : ⊥ = cc in f)
  takes_needs online _ (sent s from m g) h = absurd (let f : ⊥ = cc in f)
  takes_needs online _ (taken_in s from m g) h = absurd (let f : ⊥ = cc in f)

  -- what runs may run
  pub running_may : is_active (state t r n) ≡ true → may_be_running t.cluster r n t.planned_at ≡ true
  running_may h = by (state t r n) refl h
    where
      by : (z : CellState) → state t r n ≡ z → is_active z ≡ true → may_be_running t.cluster r n t.planned_at ≡ true
      by cell.On e h = (says_of t.cluster r n t.planned_at cell.On e).4
      by cell.Promoted e h = may-promoted t.cluster r n t.planned_at (says_of t.cluster r n t.planned_at cell.Promoted e).4
      by cell.Failed e h = (says_of t.cluster r n t.planned_at cell.Failed e).3
      by cell.Off e h = cc
      by cell.Away e h = cc
      by cell.Unprobed e h = cc
      by cell.Blocked e h = cc

  -- a migration to the cell
  pub record MigratesHere : Type 0 where
    pub from : ℕ
    pub migrates : Migrates t.cluster t.planned_at targets r from n

  pub migrates_here : (y : Action) → IsNeeded t targets y → is_sent_to r n y ≡ true → MigratesHere
  migrates_here y (kept _ f others) h = of_first y f h
    where
      of_first : (y : Action) → NeededBeforeMigration t.cluster t.planned_at targets y → is_sent_to r n y ≡ true → MigratesHere
      of_first _ (fence m l e) h = absurd (let f : ⊥ = cc in f)
      of_first _ (probe s m k l e) h = absurd (let f : ⊥ = cc in f)
      of_first _ (step s m o k l g) h = absurd (let f : ⊥ = cc in f)
      of_first _ (monitor s m w k l has g) h = absurd (let f : ⊥ = cc in f)
  migrates_here _ (sent s from m g) h =
      let same = one_cell r n s m h in
      record {
        from = from;
        migrates = subst (λ z. Migrates t.cluster t.planned_at targets z from n) same.0 (subst (λ z. Migrates t.cluster t.planned_at targets s from z) same.1 g);
      }
  migrates_here _ (taken_in s from m g) h = absurd (let f : ⊥ = cc in f)

  -- a start is needed, or the leaf migrates to the cell
  pub start_or_migration : r < length t.cluster.leaves → n < length t.cluster.nodes → GetsStep t.cluster t.planned_at targets r n op.Start
      → IsNeeded t targets (Operation op.Start r n 0 role.Started) ⊎ MigratesHere
  start_or_migration k l g = by (list_any (is_sent_to r n) t.actions) refl
    where
      by : (b : Bool) → list_any (is_sent_to r n) t.actions ≡ b → IsNeeded t targets (Operation op.Start r n 0 role.Started) ⊎ MigratesHere
      by true e =
          let one = find_one (is_sent_to r n) t.actions e in
          inr (migrates_here one.action (carries.needed (one.place + 1) one.action (number_of t one.place one.action one.is)) one.passes)
      by false e =
          inl (kept (Operation op.Start r n 0 role.Started) (step r n op.Start k l g) (λ s from m mig same.
          let leaf : r ≡ s = cc in
          let node : n ≡ m = cc in
          let number = carries.numbered (MigrateTo s from m) (sent s from m mig) in
          let absent = find_none (is_sent_to r n) t.actions e (number.number - 1) (MigrateTo s from m) (place_of t.actions number.number _ number.is) in
          refuse _ absent (and_from (s == r) (m == n) (subst (λ z. (s == z) ≡ true) (sym leaf) (number_itself s)) (subst (λ z. (m == z) ≡ true) (sym node) (number_itself m)))))
