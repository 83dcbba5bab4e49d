-- What begins, successes and waits add to the outcomes of a cell: no failure.
use Rattle.std.proofs.Common.{arith, ◌≡◌, ◌&&◌, not, ℕ, Bool, true, false, List, [], ◌∷◌, ◌++◌, filter, append-nil, refl, ap, ◌∙◌}
use Rattle.std.specs.Prelude.{Some, None, cond, is_none}
use Rattle.std.specs.List.{last_or}
use Rattle.std.proofs.lemmas.List.Elements.{filter-append}
use Rattle.cluster_types.specs.declared.cluster.Cluster.{Cluster}
use Rattle.cluster_types.specs.declared.journal.Action.{Action}
use Rattle.cluster_types.specs.declared.journal.Action.TheVariants.{Fence, Probe, Operation, MigrateTo, MigrateFrom}
use Rattle.cluster_types.specs.declared.journal.Event.{Event}
use Rattle.cluster_types.specs.declared.journal.Event.TheVariants.{Ended}
use Rattle.cluster_types.specs.declared.journal.Outcome.{Outcome}
use Rattle.cluster_types.specs.declared.journal.Outcome.TheVariants.{Code, TimedOut, Gone}
use Rattle.cluster_types.specs.declared.leaf.Op.TheVariants.{Start, Stop, Promote, Demote, Monitor}
use Rattle.cluster_types.specs.declared.leaf.Role.TheVariants as role
use Rattle.cluster_types.specs.CellStates.{last_outcome}
use Rattle.cluster_types.specs.Cells.{is_of_cell, is_reset}
use Rattle.cluster_types.specs.Failures.{failures_in_force, is_failure, is_outcome, outcomes}
use Rattle.cluster_types.specs.Outcomes.{is_code_among, is_bad, is_ignored}
use Rattle.cluster_types.specs.Steps.{is_success, expected_codes}
use Rattle.lemmas.proofs.Lasts.{last-more}
use Rattle.lemmas.proofs.Booleans.{first_passes}
use Rattle.state_unpack.proofs.MoreFailures.{outcomes-more}

-- an expected code is good
expected_good : (a : Action) (o : Outcome) → is_code_among (expected_codes a) o ≡ true → is_bad a o ≡ false
expected_good a TimedOut h = cc
expected_good a Gone h = refl
expected_good (Fence n) (Code code) h = grind arith
expected_good (Probe r n) (Code code) h = grind arith
expected_good (Operation Start r n i held) (Code code) h = grind arith
expected_good (Operation Stop r n i held) (Code code) h = grind arith
expected_good (Operation Promote r n i held) (Code code) h = grind arith
expected_good (Operation Demote r n i held) (Code code) h = grind arith
expected_good (Operation Monitor r n i role.Started) (Code code) h = grind arith
expected_good (Operation Monitor r n i role.Promoted) (Code code) h = grind arith
expected_good (MigrateTo r n m) (Code code) h = grind arith
expected_good (MigrateFrom r n m) (Code code) h = grind arith

-- a success that isn't ignored is no failure
pub success_good : (c : Cluster) (a : Action) (o : Outcome) → is_success c a o ≡ true → is_ignored c a o ≡ false → is_bad a o ≡ false
success_good c a o ok kept = expected_good a o (first_passes (is_code_among (expected_codes a) o) (is_ignored c a o) ok kept)

module _ (c : Cluster) (r n : ℕ) where
  module _ (es : List Event) (e : Event) (still : is_reset r n e ≡ false) where
    -- no failure of the cell comes to it
    pub none_more : is_outcome c r n e && is_failure e ≡ false → failures_in_force c r n (es ++ e ∷ []) ≡ failures_in_force c r n es
    none_more h =
        ap (filter is_failure) (outcomes-more c r n es e still)
        ∙ filter-append is_failure (outcomes c r n es) (filter (is_outcome c r n) (e ∷ []))
        ∙ (ap (λ xs. failures_in_force c r n es ++ xs) (by (is_outcome c r n e) (is_failure e) refl h) ∙ append-nil (failures_in_force c r n es))
      where
        by : (x y : Bool) → is_failure e ≡ y → x && y ≡ false → filter is_failure (cond x (e ∷ []) []) ≡ []
        by true true f g = cc
        by true false f g = rw f refl
        by false y f g = refl

    -- the last outcome is this one, or the one before
    pub outcome_here : is_outcome c r n e ≡ true → last_outcome c r n (es ++ e ∷ []) ≡ Some e
    outcome_here h = ap (last_or None) (outcomes-more c r n es e still) ∙ (rw h (last-more None (outcomes c r n es) e))

    pub outcome_before : is_outcome c r n e ≡ false → last_outcome c r n (es ++ e ∷ []) ≡ last_outcome c r n es
    outcome_before h = ap (last_or None) (outcomes-more c r n es e still) ∙ (rw h (ap (last_or None) (append-nil (outcomes c r n es))))

  -- so a success adds no failure
  pub success_fails_not : (k m : ℕ) (a : Action) (o : Outcome) → is_success c a o ≡ true → is_outcome c r n (Ended k a o m) && is_failure (Ended k a o m) ≡ false
  success_fails_not k m a o ok = by (is_of_cell r n a) (is_ignored c a o) refl
    where
      by : (here ignored : Bool) → is_ignored c a o ≡ ignored → here && not ignored && is_bad a o ≡ false
      by true true e = refl
      by false ignored e = refl
      by true false e = success_good c a o ok e

  -- something is known of the cell
  abbrev pub IsSeen : List Event → Type 0
  IsSeen es = is_none (last_outcome c r n es) ≡ false

  pub seen_more : (es : List Event) (e : Event) → is_reset r n e ≡ false → IsSeen es → IsSeen (es ++ e ∷ [])
  seen_more es e still seen = by (is_outcome c r n e) refl
    where
      by : (b : Bool) → is_outcome c r n e ≡ b → IsSeen (es ++ e ∷ [])
      by true h = ap is_none (outcome_here es e still h)
      by false h = ap is_none (outcome_before es e still h) ∙ seen

  pub seen_here : (es : List Event) (e : Event) → is_reset r n e ≡ false → is_outcome c r n e ≡ true → IsSeen (es ++ e ∷ [])
  seen_here es e still h = ap is_none (outcome_here es e still h)
