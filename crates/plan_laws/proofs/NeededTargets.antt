-- A start, a promote or a migration that is needed is of a target that was chosen where the cluster may start.
use Rattle.std.proofs.Common.{◌≡◌, ◌<◌, ◌&&◌, ◌||◌, not, ℕ, Bool, true, false, if◌then◌else◌, List, [], length, inl, inr, refl, ◌∙◌, Contains}
use Rattle.std.specs.Prelude.{nat_le}
use Rattle.lemmas.proofs.Booleans.{sooner}
use Rattle.lemmas.proofs.Members.{in_none}
use Rattle.loops.proofs.Needs.{decided_leaf}
use Rattle.cluster_types.specs.declared.cluster.Cluster.{Cluster}
use Rattle.cluster_types.specs.declared.journal.Action.TheVariants.{Operation, MigrateTo, MigrateFrom}
use Rattle.cluster_types.specs.declared.journal.Event.{Event}
use Rattle.cluster_types.specs.declared.journal.Promotion.{Promotion}
use Rattle.cluster_types.specs.declared.leaf.Op.{Op}
use Rattle.cluster_types.specs.declared.leaf.Op.TheVariants as op
use Rattle.cluster_types.specs.declared.leaf.Role.{Role}
use Rattle.cluster_types.specs.declared.leaf.Role.TheVariants as role
use Rattle.cluster_types.specs.declared.placement.Placed.{Placed}
use Rattle.cluster_types.specs.CellStates.{cell_state}
use Rattle.cluster_types.specs.Choice.{is_kept_by, is_permitted}
use Rattle.cluster_types.specs.Decisions.{decision_of, leaf_of}
use Rattle.cluster_types.specs.Fields.{copies}
use Rattle.cluster_types.specs.NeededActions.{Cycled, NeededBeforeMigration, GetsStep, Migrates, Needed, kept, runs, sent, step, steps_at, steps_of, taken_in}
use Rattle.cluster_types.specs.Pins.{is_pinned}
use Rattle.cluster_types.specs.Plans.{IsPlaced}
use Rattle.cluster_types.specs.Rights.{may_keep, may_start}
use Rattle.cluster_types.specs.Tables.{Targets, holds_role, is_somewhere, targets_of}
use Rattle.cluster_types.specs.Terms.{active_count}
use Rattle.cluster_types.proofs.NeededLaws.{can_be_cycled}
use Rattle.plan_laws.specs.Placing.{CanBeGivenRole}
use Rattle.plan_laws.proofs.ChosenTargets.{fitted}
use Rattle.plan_laws.proofs.NeededSteps.{MustBeGiven, given_again, given_anew, StepGives, started, promoted}
use Rattle.plan_laws.proofs.StayHeld.{holds_is}

must_start : (a b k e : Bool) → a || b && k && e ≡ true → k ≡ false → a ≡ true
must_start true b k e h g = refl
must_start false true true e h g = cc
must_start false true false e h g = cc
must_start false false k e h g = cc

module _ (c : Cluster) (es : List Event) where
  -- what isn't kept was chosen since the cluster may start
  started_anew : (r n : ℕ) (given : Role) → is_permitted c es (decision_of r given) n ≡ true → is_kept_by (decision_of r given) (cell_state c r n es) ≡ false
      → may_start c es ≡ true
  started_anew r n given permitted h =
      must_start (may_start c es) (may_keep c es) (is_kept_by (decision_of r given) (cell_state c (leaf_of (decision_of r given)) n es))
      (nat_le (active_count c es (leaf_of (decision_of r given))) (copies c (leaf_of (decision_of r given)))) permitted (rw (decided_leaf r given) h)

  module _ (targets : Targets) where
    -- a cell with a step is of a leaf that isn't pinned
    pub record Steps (r n : ℕ) (o : Op) (cycled : Bool) : Type 0 where
      pub free : is_pinned c es r ≡ false
      pub among : Contains (steps_of (cell_state c r n es) (targets r n) cycled) o

    pub steps : (r n : ℕ) (o : Op) (cycled : Bool) → Contains (steps_at c es targets r n cycled) o → Steps r n o cycled
    steps r n o cycled h = go (is_pinned c es r) refl h
      where
        go : (b : Bool) → is_pinned c es r ≡ b → Contains (if b then [] else steps_of (cell_state c r n es) (targets r n) cycled) o → Steps r n o cycled
        go true e h = absurd (in_none o h)
        go false e h = record { free = e; among = h }

    cycled_may : (r n : ℕ) → Cycled c es targets r n → may_start c es ≡ true
    cycled_may r n cycled =
        sooner (may_start c es) (not (is_pinned c es r))
        (sooner _ (runs (cell_state c r n es)) (sooner _ (is_somewhere (targets r n)) (can_be_cycled c es targets r n cycled)))

  module _ (ps : List Promotion) (placed : Placed) (is : IsPlaced c es ps placed) where
    abbrev pub targets : Targets
    targets = targets_of placed.table

    gives_with : (r n : ℕ) (given : Role) → r < length c.leaves → n < length c.nodes → is_pinned c es r ≡ false → holds_role targets r given n ≡ true
        → (is_permitted c es (decision_of r given) n ≡ true → may_start c es ≡ true) → CanBeGivenRole c es targets r n given
    gives_with r n given low within free held may =
        let f = fitted c es ps placed is r n given low within free held in
        record { leaf = low; node = within; free = free; target = held; usable = f.usable; may = may f.permitted }

    pub gives : (r n : ℕ) (o : Op) (given : Role) → r < length c.leaves → n < length c.nodes → StepGives o given → GetsStep c es targets r n o → CanBeGivenRole c es targets r n given
    gives r n o given low within word (inl (cycled, there)) =
        let s : Steps targets r n o true = steps targets r n o true there in
        gives_with r n given low within s.free (holds_is targets r given n ∙ given_again (cell_state c r n es) (targets r n) o given word s.among)
        (λ permitted. cycled_may targets r n cycled)
    gives r n o given low within word (inr (uncycled, there)) =
        let s : Steps targets r n o false = steps targets r n o false there in
        let m : MustBeGiven r given (cell_state c r n es) (targets r n) = given_anew r (cell_state c r n es) (targets r n) o given word s.among in
        gives_with r n given low within s.free (holds_is targets r given n ∙ m.wanted) (λ permitted. started_anew r n given permitted m.not_kept)

    first_start : (r n : ℕ) → NeededBeforeMigration c es targets (Operation op.Start r n 0 role.Started) → CanBeGivenRole c es targets r n role.Started
    first_start r n (step _ _ _ low within gets) = gives r n op.Start role.Started low within started gets

    first_promote : (r n : ℕ) → NeededBeforeMigration c es targets (Operation op.Promote r n 0 role.Started) → CanBeGivenRole c es targets r n role.Promoted
    first_promote r n (step _ _ _ low within gets) = gives r n op.Promote role.Promoted low within promoted gets

    pub needed_start : (r n : ℕ) → Needed c es targets (Operation op.Start r n 0 role.Started) → CanBeGivenRole c es targets r n role.Started
    needed_start r n (kept _ first unless) = first_start r n first

    pub needed_promote : (r n : ℕ) → Needed c es targets (Operation op.Promote r n 0 role.Started) → CanBeGivenRole c es targets r n role.Promoted
    needed_promote r n (kept _ first unless) = first_promote r n first

    pub needed_migration : (r n m : ℕ) → Migrates c es targets r n m → CanBeGivenRole c es targets r m role.Started
    needed_migration r n m migrates = first_start r m migrates.started

    no_first_sending : (r n m : ℕ) → NeededBeforeMigration c es targets (MigrateTo r n m) → ⊥
    no_first_sending r n m h = elim h [ ]

    pub needed_sending : (r n m : ℕ) → Needed c es targets (MigrateTo r n m) → CanBeGivenRole c es targets r m role.Started
    needed_sending r n m (sent _ _ _ migrates) = needed_migration r n m migrates
    needed_sending r n m (kept _ first unless) = absurd (no_first_sending r n m first)

    no_first_taking_in : (r n m : ℕ) → NeededBeforeMigration c es targets (MigrateFrom r n m) → ⊥
    no_first_taking_in r n m h = elim h [ ]

    pub needed_taking_in : (r n m : ℕ) → Needed c es targets (MigrateFrom r n m) → CanBeGivenRole c es targets r m role.Started
    needed_taking_in r n m (taken_in _ _ _ migrates) = needed_migration r n m migrates
    needed_taking_in r n m (kept _ first unless) = absurd (no_first_taking_in r n m first)
