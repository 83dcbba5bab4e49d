-- What a transition has from its plan, and what the laws of placement say of a plan.
use Rattle.std.proofs.Common.{ℕ}
use Rattle.std.specs.Prelude.{◌≡◌, ◌<◌, true, Some, length}
use Rattle.cluster_types.specs.declared.journal.Action.{Action}
use Rattle.cluster_types.specs.Fields.{is_promotable}
use Rattle.cluster_types.specs.LawfulTables.{IsLawful}
use Rattle.cluster_types.specs.NeededActions.{Needed}
use Rattle.cluster_types.specs.Numbers.{is_earlier}
use Rattle.cluster_types.specs.Pins.{is_pinned, pinned_targets}
use Rattle.cluster_types.specs.Precedence.{gives_any, is_some_cell, must_precede}
use Rattle.cluster_types.specs.Rights.{may_start}
use Rattle.cluster_types.specs.Steps.{Transition, action_at}
use Rattle.cluster_types.specs.Tables.{Targets, is_promoted_target}

module _ (t : Transition) where
  -- the action has a number
  pub record HasNumber (a : Action) : Type 0 where
    pub number : ℕ
    pub is : action_at t number ≡ Some a

  module _ (targets : Targets) where
    -- its actions are those that are needed, each once, and what must precede does
    pub record Carries : Type 0 where
      pub needed : (k : ℕ) (a : Action) → action_at t k ≡ Some a → Needed t.cluster t.planned_at targets a
      pub once : (j k : ℕ) (a : Action) → action_at t j ≡ Some a → action_at t k ≡ Some a → j ≡ k
      pub numbered : (a : Action) → Needed t.cluster t.planned_at targets a → HasNumber a
      pub precede : (j k : ℕ) (x y : Action) → action_at t j ≡ Some x → action_at t k ≡ Some y
          → must_precede t.cluster t.actions (is_earlier t.cluster t.actions) x y ≡ true → t.precedes j k ≡ true

    -- the table is lawful, pinned leaves stay, only promotable leaves are promoted, and what gives a role is needed only where the cluster may start
    pub record IsSound : Type 0 where
      pub lawful : IsLawful t.cluster t.planned_at targets
      pub pinned : (r n : ℕ) → r < length t.cluster.leaves → n < length t.cluster.nodes → is_pinned t.cluster t.planned_at r ≡ true
          → targets r n ≡ pinned_targets t.cluster t.planned_at r n
      pub promotable : (r n : ℕ) → r < length t.cluster.leaves → n < length t.cluster.nodes → is_promoted_target (targets r n) ≡ true → is_promotable t.cluster r ≡ true
      pub may_start : (a : Action) → Needed t.cluster t.planned_at targets a → is_some_cell (gives_any a) ≡ true → may_start t.cluster t.planned_at ≡ true
