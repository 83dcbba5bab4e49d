-- Each target of a placement was chosen: by its own decision, at the table that those before it left.
use Rattle.std.proofs.Common.{◌≡◌, ◌<◌, ℕ, true, false, List, length, inl, inr}
use Rattle.lemmas.proofs.Booleans.{sooner}
use Rattle.cluster_types.specs.declared.cluster.Cluster.{Cluster}
use Rattle.cluster_types.specs.declared.journal.Event.{Event}
use Rattle.cluster_types.specs.declared.journal.Promotion.{Promotion}
use Rattle.cluster_types.specs.declared.leaf.Role.{Role}
use Rattle.cluster_types.specs.declared.placement.Placed.{Placed}
use Rattle.cluster_types.specs.Choice.{is_candidate}
use Rattle.cluster_types.specs.Decisions.{decision_of}
use Rattle.cluster_types.specs.Pins.{is_pinned, pinned_targets}
use Rattle.cluster_types.specs.Plans.{IsPlaced}
use Rattle.cluster_types.specs.Tables.{Targets, holds_role, targets_of}
use Rattle.plan_laws.specs.Placing.{WasChosen, table_after}
use Rattle.plan_laws.proofs.CameFrom.{came_from}
use Rattle.plan_laws.proofs.KeptTargets.{chosen}
use Rattle.plan_laws.proofs.OneStep.{Fits, fits}
use Rattle.plan_laws.proofs.StayHeld.{free_of_pins}

module _ (c : Cluster) (es : List Event) (ps : List Promotion) (placed : Placed) (is : IsPlaced c es ps placed) where
  abbrev pub table : Targets
  table = table_after c es ps is.decisions

  abbrev pub targets : Targets
  targets = targets_of placed.table

  -- a target holds its role in the table after all decisions too
  pub was_chosen : (r n : ℕ) (given : Role) → r < length c.leaves → n < length c.nodes → holds_role targets r given n ≡ true → holds_role table r given n ≡ true
  was_chosen r n given low within h = chosen c es table targets r n given (is.targets r n low within) h

  module _ (r n : ℕ) (given : Role) (low : r < length c.leaves) (within : n < length c.nodes) (free : is_pinned c es r ≡ false)
      (held : holds_role targets r given n ≡ true) where
    pub source : WasChosen c es ps (pinned_targets c es) is.decisions r given n
    source = elim (came_from c es ps (pinned_targets c es) is.decisions r n given (was_chosen r n given low within held)) [
      | inl was ↦ absurd (free_of_pins c es r n given free was)
      | inr s ↦ s
    ]

    -- the table at which it was chosen
    abbrev pub table_then : Targets
    table_then = table_after c es ps source.before

    pub fitted : Fits c es ps table_then (decision_of r given) n
    fitted = fits c es ps table_then (decision_of r given) n (sooner (is_candidate c es ps table_then (decision_of r given) n) _ source.chosen)
