-- What is needed of an action that gives a leaf to a node: a target there, or else it is a demote of what was promoted.
use Rattle.std.proofs.Common.{inl, inr, ◌⊎◌, ◌≡◌, ℕ, true, List, refl, sym, subst}
use Rattle.lemmas.proofs.Booleans.{later}
use Rattle.cluster_types.specs.declared.cluster.Cluster.{Cluster}
use Rattle.cluster_types.specs.declared.journal.Action.{Action}
use Rattle.cluster_types.specs.declared.journal.Action.TheVariants.{Operation}
use Rattle.cluster_types.specs.declared.journal.Event.{Event}
use Rattle.cluster_types.specs.declared.leaf.Op.{Op}
use Rattle.cluster_types.specs.declared.leaf.Op.TheVariants as op
use Rattle.cluster_types.specs.declared.leaf.Role.{Role}
use Rattle.cluster_types.specs.declared.leaf.Role.TheVariants as role
use Rattle.cluster_types.specs.declared.placement.Target.{Target}
use Rattle.cluster_types.specs.declared.placement.Target.TheVariants as target
use Rattle.cluster_types.specs.CellStates.{cell_state}
use Rattle.cluster_types.specs.NeededActions.{NeededBeforeMigration, fence, probe, step, monitor, Needed, kept, sent, taken_in, is_monitor_for}
use Rattle.cluster_types.specs.Tables.{Targets, is_promoted_target, is_somewhere}
use Rattle.cluster_types.proofs.TableCells.{promoted_somewhere}
use Rattle.plan_laws.proofs.CellSteps.{IsStep, is_step, is_known, is_promoted_state}
use Rattle.run_safety.proofs.Touching.{gives_run, gives_promoted}
use Rattle.run_safety.proofs.Truths.{one_cell}

pub monitored_somewhere : (held : Role) (t : Target) → is_monitor_for held t ≡ true → is_somewhere t ≡ true
monitored_somewhere held target.Started h = refl
monitored_somewhere held target.Promoted h = refl
monitored_somewhere role.Started target.Nowhere h = cc
monitored_somewhere role.Promoted target.Nowhere h = cc

monitored_promoted : (t : Target) → is_monitor_for role.Promoted t ≡ true → is_promoted_target t ≡ true
monitored_promoted target.Promoted h = refl
monitored_promoted target.Started h = cc
monitored_promoted target.Nowhere h = cc

module _ (c : Cluster) (es : List Event) (targets : Targets) where
  pub start_step : (r n : ℕ) → NeededBeforeMigration c es targets (Operation op.Start r n 0 role.Started) → IsStep c es targets r n op.Start
  start_step r n (step _ _ _ h l g) = is_step c es targets r n op.Start g

  module _ (r n : ℕ) where
    -- there is a target, or it is a demote of what was promoted
    abbrev pub Gives : Action → Type 0
    Gives y = (is_somewhere (targets r n) ≡ true) ⊎ ((y ≡ Operation op.Demote r n 0 role.Started) × (is_promoted_state (cell_state c r n es) ≡ true))

    here_too : (s m : ℕ) → (s ≡ r) × (m ≡ n) → is_somewhere (targets s m) ≡ true → is_somewhere (targets r n) ≡ true
    here_too s m (e, f) h = subst (λ z. is_somewhere (targets z n) ≡ true) e (subst (λ z. is_somewhere (targets s z) ≡ true) f h)

    step_gives : (s m : ℕ) (o : Op) → IsStep c es targets s m o → gives_run r n (Operation o s m 0 role.Started) ≡ true → Gives (Operation o s m 0 role.Started)
    step_gives s m op.Start is h = inl (here_too s m (one_cell r n s m h) (later (is_known (cell_state c s m es)) _ is.fitting))
    step_gives s m op.Promote is h =
        inl (here_too s m (one_cell r n s m h) (promoted_somewhere (targets s m) (later (is_known (cell_state c s m es)) _ is.fitting)))
    step_gives s m op.Demote is h =
        let same = one_cell r n s m h in
        let leaf = same.0 in
        let node = same.1 in
        inr (
          subst (λ z. Operation op.Demote z m 0 role.Started ≡ Operation op.Demote r n 0 role.Started) (sym leaf) (subst (λ z. Operation op.Demote r z 0 role.Started ≡ Operation op.Demote r n 0 role.Started) (sym node) refl),
          subst (λ z. is_promoted_state (cell_state c z n es) ≡ true) leaf (subst (λ z. is_promoted_state (cell_state c s z es) ≡ true) node is.fitting),
        )
    step_gives s m op.Stop is h = absurd (let f : ⊥ = cc in f)
    step_gives s m op.Monitor is h = let no = is.fitting in absurd (let f : ⊥ = cc in f)

    first_gives : (y : Action) → NeededBeforeMigration c es targets y → gives_run r n y ≡ true → Gives y
    first_gives _ (fence m l e) h = absurd (let f : ⊥ = cc in f)
    first_gives _ (probe s m k l e) h = absurd (let f : ⊥ = cc in f)
    first_gives _ (step s m o k l g) h = step_gives s m o (is_step c es targets s m o g) h
    first_gives _ (monitor s m w k l has needs) h = inl (here_too s m (one_cell r n s m h) (monitored_somewhere w.role (targets s m) needs.1))

    pub run_gives : (y : Action) → Needed c es targets y → gives_run r n y ≡ true → Gives y
    run_gives y (kept _ f others) h = first_gives y f h
    run_gives _ (sent s from m g) h = inl (here_too s m (one_cell r n s m h) (later (is_known (cell_state c s m es)) _ (start_step s m g.started).fitting))
    run_gives _ (taken_in s from m g) h = inl (here_too s m (one_cell r n s m h) (later (is_known (cell_state c s m es)) _ (start_step s m g.started).fitting))

    -- what promotes has a target that is promoted
    promoted_too : (s m : ℕ) → (s ≡ r) × (m ≡ n) → is_promoted_target (targets s m) ≡ true → is_promoted_target (targets r n) ≡ true
    promoted_too s m (e, f) h = subst (λ z. is_promoted_target (targets z n) ≡ true) e (subst (λ z. is_promoted_target (targets s z) ≡ true) f h)

    step_promotes : (s m : ℕ) (o : Op) → IsStep c es targets s m o → gives_promoted r n (Operation o s m 0 role.Started) ≡ true → is_promoted_target (targets r n) ≡ true
    step_promotes s m op.Promote is h = promoted_too s m (one_cell r n s m h) (later (is_known (cell_state c s m es)) _ is.fitting)
    step_promotes s m op.Start is h = cc
    step_promotes s m op.Demote is h = cc
    step_promotes s m op.Stop is h = cc
    step_promotes s m op.Monitor is h = cc

    watch_promotes : (s m ms : ℕ) (held : Role) → is_monitor_for held (targets s m) ≡ true → gives_promoted r n (Operation op.Monitor s m ms held) ≡ true
        → is_promoted_target (targets r n) ≡ true
    watch_promotes s m ms role.Started g h = cc
    watch_promotes s m ms role.Promoted g h = promoted_too s m (one_cell r n s m h) (monitored_promoted (targets s m) g)

    first_promotes : (y : Action) → NeededBeforeMigration c es targets y → gives_promoted r n y ≡ true → is_promoted_target (targets r n) ≡ true
    first_promotes _ (fence m l e) h = cc
    first_promotes _ (probe s m k l e) h = cc
    first_promotes _ (step s m o k l g) h = step_promotes s m o (is_step c es targets s m o g) h
    first_promotes _ (monitor s m w k l has needs) h = watch_promotes s m w.interval_ms w.role needs.1 h

    pub promoted_gives : (y : Action) → Needed c es targets y → gives_promoted r n y ≡ true → is_promoted_target (targets r n) ≡ true
    promoted_gives y (kept _ f others) h = first_promotes y f h
    promoted_gives _ (sent s from m g) h = cc
    promoted_gives _ (taken_in s from m g) h = cc
