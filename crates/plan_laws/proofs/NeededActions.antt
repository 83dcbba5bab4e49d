-- What needed actions say of their leaves: where they come from, which leaves are disturbed, and which migrate.
use Rattle.std.proofs.Common.{◌≡◌, ◌<◌, ℕ, Bool, true, false, List, length, eqb-true, Contains, refl, subst}
use Rattle.std.specs.List.{list_any}
use Rattle.std.proofs.lemmas.Bool.{both_ways}
use Rattle.std.proofs.lemmas.List.Folds.{Any-from_list_any}
use Rattle.lemmas.proofs.Booleans.{later, sooner}
use Rattle.cluster_types.specs.declared.cluster.Cluster.{Cluster}
use Rattle.cluster_types.specs.declared.journal.Action.{Action}
use Rattle.cluster_types.specs.declared.journal.Action.TheVariants.{Fence, Probe, Operation, MigrateTo, MigrateFrom}
use Rattle.cluster_types.specs.declared.journal.Event.{Event}
use Rattle.cluster_types.specs.declared.leaf.Op.{Op}
use Rattle.cluster_types.specs.declared.leaf.Op.TheVariants as op
use Rattle.cluster_types.specs.declared.leaf.Role.{Role}
use Rattle.cluster_types.specs.declared.leaf.Role.TheVariants as role
use Rattle.cluster_types.specs.declared.states.CellState.TheVariants as cell
use Rattle.cluster_types.specs.CellStates.{cell_state}
use Rattle.cluster_types.specs.Fields.{is_promotable}
use Rattle.cluster_types.specs.May.{is_left_promoted}
use Rattle.cluster_types.specs.NeededActions.{GetsStep, GetsStepAnywhere, NeededBeforeMigration, fence, probe, step, monitor, Migrates, Needed, kept, sent, taken_in}
use Rattle.cluster_types.specs.Precedence.{is_migrating, sends}
use Rattle.cluster_types.specs.Tables.{Targets, is_promoted_target}
use Rattle.cluster_types.proofs.NeededLaws.{bounds_of_first}
use Rattle.plan_laws.proofs.CellStates.{says_of}
use Rattle.plan_laws.proofs.CellSteps.{IsStep, is_step, is_known, promoted_state}

-- an element of the list that passes
pub record Found {X : Type 0} (p : X → Bool) (xs : List X) : Type 0 where
  pub element : X
  pub among : Contains xs element
  pub passes : p element ≡ true

pub found : {X : Type 0} (p : X → Bool) (xs : List X) → list_any p xs ≡ true → Found p xs
found p xs h = let (k, a, lt, is, e) = Any-from_list_any p xs h in record { element = a; among = (k, lt, is); passes = e }

abbrev is_migration : Action → Bool
is_migration (MigrateTo r n m) = true
is_migration (MigrateFrom r n m) = true
is_migration _ = false

abbrev pub is_monitor : Op → Bool
is_monitor op.Monitor = true
is_monitor _ = false

module _ (c : Cluster) (es : List Event) (targets : Targets) where
  no_migration : (a : Action) → NeededBeforeMigration c es targets a → is_migration a ≡ false
  no_migration _ (fence n h e) = refl
  no_migration _ (probe r n h l e) = refl
  no_migration _ (step r n o h l g) = refl
  no_migration _ (monitor r n m h l k g) = refl

  first_of_cell : (o : Op) (r n i : ℕ) (role : Role) → Needed c es targets (Operation o r n i role) → NeededBeforeMigration c es targets (Operation o r n i role)
  first_of_cell o r n i role (kept _ f k) = f

  -- a step of a cell that isn't a monitor is one that the cell gets
  step_of_cell : (o : Op) (r n i : ℕ) (role : Role) → is_monitor o ≡ false → NeededBeforeMigration c es targets (Operation o r n i role) → GetsStep c es targets r n o
  step_of_cell _ _ _ _ _ e (step r n o h l g) = g
  step_of_cell _ _ _ _ _ e (monitor r n m h l k g) = cc

  pub gets_step : (o : Op) (r n i : ℕ) (role : Role) → is_monitor o ≡ false → Needed c es targets (Operation o r n i role) → GetsStep c es targets r n o
  gets_step o r n i role e h = step_of_cell o r n i role e (first_of_cell o r n i role h)

  pub bounds_of_cell : (o : Op) (r n i : ℕ) (role : Role) → Needed c es targets (Operation o r n i role) → (r < length c.leaves) × (n < length c.nodes)
  bounds_of_cell o r n i role h = bounds_of_first c es targets o r n i role (first_of_cell o r n i role h)

  disturbed_by_first : (o : Op) (r n i : ℕ) (role : Role) → is_monitor o ≡ false → NeededBeforeMigration c es targets (Operation o r n i role) → GetsStepAnywhere c es targets r
  disturbed_by_first o r n i role e f = (n, (bounds_of_first c es targets o r n i role f).1, (o, step_of_cell o r n i role e f))

  pub disturbed_by : (o : Op) (r n i : ℕ) (role : Role) → is_monitor o ≡ false → Needed c es targets (Operation o r n i role) → GetsStepAnywhere c es targets r
  disturbed_by o r n i role e h = disturbed_by_first o r n i role e (first_of_cell o r n i role h)

  -- what sends and what takes in is of a leaf that migrates
  pub migrates_by_sent : (r n m : ℕ) → Needed c es targets (MigrateTo r n m) → Migrates c es targets r n m
  migrates_by_sent r n m (kept _ f k) = absurd (both_ways true (no_migration (MigrateTo r n m) f) refl)
  migrates_by_sent _ _ _ (sent r n m g) = g

  pub migrates_by_taken : (r n m : ℕ) → Needed c es targets (MigrateFrom r n m) → Migrates c es targets r n m
  migrates_by_taken r n m (kept _ f k) = absurd (both_ways true (no_migration (MigrateFrom r n m) f) refl)
  migrates_by_taken _ _ _ (taken_in r n m g) = g

  pub migrant_disturbed : (r n m : ℕ) → Migrates c es targets r n m → GetsStepAnywhere c es targets r
  migrant_disturbed r n m g = disturbed_by_first op.Stop r n 0 role.Started refl g.stopped

  -- the leaf migrates, from one node to another
  pub record Migrant (r : ℕ) : Type 0 where
    pub source : ℕ
    pub goal : ℕ
    pub migrates : Migrates c es targets r source goal

  pub migrating : (actions : List Action) → ((a : Action) → Contains actions a → Needed c es targets a) → (r : ℕ) → is_migrating actions r ≡ true → Migrant r
  migrating actions needed r h = let one = found (sends r) actions h in of one.element (needed one.element one.among) one.passes
    where
      of : (a : Action) → Needed c es targets a → sends r a ≡ true → Migrant r
      of (Fence n) k e = absurd (both_ways false refl e)
      of (Probe s n) k e = absurd (both_ways false refl e)
      of (Operation o s n i role) k e = absurd (both_ways false refl e)
      of (MigrateTo s n m) k e = record {
        source = n;
        goal = m;
        migrates = subst (λ v. Migrates c es targets v n m) (eqb-true s r e) (migrates_by_sent s n m k);
      }
      of (MigrateFrom s n m) k e = absurd (both_ways false refl e)

  -- a leaf that is demoted is promotable, and one that is promoted is to be promoted
  pub promotable_by_demote : (r n : ℕ) → GetsStep c es targets r n op.Demote → is_promotable c r ≡ true
  promotable_by_demote r n g =
      let is : IsStep c es targets r n op.Demote = is_step c es targets r n op.Demote g in
      sooner (is_promotable c r) (is_left_promoted c r n es) (says_of c r n es cell.Promoted (promoted_state (cell_state c r n es) is.fitting)).4

  pub target_by_promote : (r n : ℕ) → GetsStep c es targets r n op.Promote → is_promoted_target (targets r n) ≡ true
  target_by_promote r n g =
      let is : IsStep c es targets r n op.Promote = is_step c es targets r n op.Promote g in later (is_known (cell_state c r n es)) _ is.fitting
