-- In the table after all decisions no leaf that isn't pinned is with what it must be apart from.
use Rattle.std.proofs.Common.{◌≡◌, ◌<◌, ◌&&◌, ◌||◌, not, ℕ, Bool, true, false, List, length, inl, inr, Contains}
use Rattle.std.proofs.lemmas.Bool.{and_from, or_right}
use Rattle.lemmas.proofs.Booleans.{sooner}
use Rattle.lemmas.proofs.Searches.{passes_by, each_passes}
use Rattle.edges.specs.Chains.{one_link}
use Rattle.loops.proofs.Needs.{decision_there, is_itself}
use Rattle.loops.proofs.FromValid.{valid_join}
use Rattle.cluster_types.specs.declared.cluster.Cluster.{Cluster}
use Rattle.cluster_types.specs.declared.journal.Event.{Event}
use Rattle.cluster_types.specs.declared.journal.Promotion.{Promotion}
use Rattle.cluster_types.specs.declared.leaf.Role.{Role}
use Rattle.cluster_types.specs.declared.leaf.Role.TheVariants as role
use Rattle.cluster_types.specs.declared.placement.Decision.{Decision}
use Rattle.cluster_types.specs.declared.placement.Decision.TheVariants.{Place}
use Rattle.cluster_types.specs.declared.rules.Colocation.{Colocation}
use Rattle.cluster_types.specs.Choice.{after_decisions, is_candidate, is_chosen, is_dependent, is_primary, is_separation}
use Rattle.cluster_types.specs.Decisions.{all_decisions, decision_of, is_place, is_same_decision, makes_need, leaf_of, needs}
use Rattle.cluster_types.specs.Pins.{pinned_targets}
use Rattle.cluster_types.specs.Tables.{Targets, holds_role}
use Rattle.cluster_types.specs.Valid.{IsValid}
use Rattle.plan_laws.proofs.CameFrom.{BothHeld, Met, at_once, first_there, met, second_there}
use Rattle.plan_laws.proofs.OneStep.{Fits, fits}

-- what the test for one separation says
not_with_primary : (s d h q k : Bool) → not s || not (d && h) && not (q && k) ≡ true → s ≡ true → d ≡ true → h ≡ true → ⊥
not_with_primary true true true q k t e f g = cc
not_with_primary true true false q k t e f g = cc
not_with_primary true false h q k t e f g = cc
not_with_primary false d h q k t e f g = cc

not_with_dependent : (s d h q k : Bool) → not s || not (d && h) && not (q && k) ≡ true → s ≡ true → q ≡ true → k ≡ true → ⊥
not_with_dependent true true true q k t e f g = cc
not_with_dependent true true false true true t e f g = cc
not_with_dependent true false h true true t e f g = cc
not_with_dependent true d h true false t e f g = cc
not_with_dependent true d h false k t e f g = cc
not_with_dependent false d h q k t e f g = cc

-- no colocation of a valid cluster is of one decision twice: it would need itself
pub other_decisions : (c : Cluster) → IsValid c → (col : Colocation) → Contains c.colocations col
    → decision_of col.dependent col.dependent_role ≡ decision_of col.primary col.primary_role → ⊥
other_decisions c valid col present same =
    valid.needs d (one_link d d (record { there = among; needed = wants }))
  where
    d : Decision
    d = decision_of col.dependent col.dependent_role

    among : Contains (all_decisions c) d
    among = decision_there c d (leaf_there col.dependent_role)
      where
        leaf_there : (given : Role) → leaf_of (decision_of col.dependent given) < length c.leaves
        leaf_there role.Started = (valid_join c valid.colocations col present).dependent
        leaf_there role.Promoted = (valid_join c valid.colocations col present).dependent

    wants : needs c d d ≡ true
    wants =
        or_right (not (is_place d) && is_same_decision d (Place (leaf_of d))) _
        (passes_by (makes_need d d) c.colocations col present
        (and_from (is_same_decision d (decision_of col.dependent col.dependent_role)) _ (is_itself d) (rw (← same) (is_itself d))))

module _ (c : Cluster) (es : List Event) (ps : List Promotion) where
  chosen_apart : (at : Targets) (d : Decision) (n : ℕ) (col : Colocation) → Contains c.colocations col → is_chosen c es ps at d n ≡ true
      → not (is_separation col) || not (is_dependent d col && holds_role at col.primary col.primary_role n)
      && not (is_primary d col && holds_role at col.dependent col.dependent_role n) ≡ true
  chosen_apart at d n col present h =
      let f : Fits c es ps at d n = fits c es ps at d n (sooner (is_candidate c es ps at d n) _ h) in
      each_passes (λ col. not (is_separation col)
      || not (is_dependent d col && holds_role at col.primary col.primary_role n)
      && not (is_primary d col && holds_role at col.dependent col.dependent_role n)) c.colocations col f.apart present

  module _ (valid : IsValid c) (col : Colocation) (present : Contains c.colocations col) (separation : is_separation col ≡ true) (n : ℕ) where
    never_met : Met c es ps col.dependent col.dependent_role col.primary col.primary_role n → ⊥
    never_met (first_there at held chosen) =
        not_with_dependent (is_separation col) (is_dependent (decision_of col.primary col.primary_role) col) (holds_role at col.primary col.primary_role n)
        (is_primary (decision_of col.primary col.primary_role) col) (holds_role at col.dependent col.dependent_role n)
        (chosen_apart at (decision_of col.primary col.primary_role) n col present chosen) separation
        (is_itself (decision_of col.primary col.primary_role)) held
    never_met (second_there at held chosen) =
        not_with_primary (is_separation col) (is_dependent (decision_of col.dependent col.dependent_role) col) (holds_role at col.primary col.primary_role n)
        (is_primary (decision_of col.dependent col.dependent_role) col) (holds_role at col.dependent col.dependent_role n)
        (chosen_apart at (decision_of col.dependent col.dependent_role) n col present chosen) separation
        (is_itself (decision_of col.dependent col.dependent_role)) held
    never_met (at_once same) = other_decisions c valid col present same

    -- of two that must be apart both hold their roles on a node only where both are pinned
    pub both_pinned : (ds : List Decision) → holds_role (after_decisions c es ps (pinned_targets c es) ds) col.dependent col.dependent_role n ≡ true
        → holds_role (after_decisions c es ps (pinned_targets c es) ds) col.primary col.primary_role n ≡ true
        → BothHeld c es ps (pinned_targets c es) col.dependent col.dependent_role col.primary col.primary_role n
    both_pinned ds h k =
        elim (met c es ps col.dependent col.dependent_role col.primary col.primary_role n (pinned_targets c es) ds h k) [
          | inl both ↦ both
          | inr m ↦ absurd (never_met m)
        ]
