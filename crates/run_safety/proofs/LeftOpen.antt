-- Whether it is left open what runs in a cell, event by event.
use Rattle.std.proofs.Common.{◌≡◌, ◌||◌, ℕ, Bool, true, false, List, [], ◌∷◌, ◌++◌, refl, ap, ◌∙◌}
use Rattle.std.specs.List.{list_any, after_last}
use Rattle.std.specs.Option.{option_map_or}
use Rattle.std.proofs.lemmas.Bool.{or_from, or_parts}
use Rattle.std.proofs.lemmas.List.Folds.{list_any-append}
use Rattle.cluster_types.specs.declared.cluster.Cluster.{Cluster}
use Rattle.cluster_types.specs.declared.journal.Action.{Action}
use Rattle.cluster_types.specs.declared.journal.Action.TheVariants.{Fence, Probe, Operation, MigrateTo, MigrateFrom}
use Rattle.cluster_types.specs.declared.journal.Event.{Event}
use Rattle.cluster_types.specs.declared.journal.Event.TheVariants.{Wait, Begin, Ended}
use Rattle.cluster_types.specs.declared.journal.Outcome.{Outcome}
use Rattle.cluster_types.specs.CellStates.{begins_sending_to, is_unclear, is_sent_away}
use Rattle.cluster_types.specs.Cells.{is_of_cell, is_same_cell, is_sent_to, is_reset}
use Rattle.cluster_types.specs.Failures.{is_failure, is_outcome}
use Rattle.cluster_types.specs.Outcomes.{is_bad, is_ignored}
use Rattle.cluster_types.specs.Steps.{is_success}
use Rattle.lemmas.proofs.Lasts.{after_last-here, after_last-more}
use Rattle.run_safety.proofs.Outcomes.{outcome_here, outcome_before, success_good}

-- the action sends the leaf away from the cell
abbrev pub is_sending_from : ℕ → ℕ → Action → Bool
is_sending_from r n (MigrateTo leaf source to) = is_same_cell r n leaf source
is_sending_from r n _ = false

module _ (c : Cluster) (r n : ℕ) where
  abbrev pub IsSure : List Event → Type 0
  IsSure es = is_unclear c r n es ≡ false

  -- no outcome of the cell: it stays as it was, unless a migration to it begins
  other_sure : (es : List Event) (e : Event) → is_reset r n e ≡ false → is_outcome c r n e ≡ false → begins_sending_to r n e ≡ false
      → IsSure es → IsSure (es ++ e ∷ [])
  other_sure es e still outside quiet sure =
      let both = or_parts _ _ sure in
      or_from _ _ (ap (λ o. option_map_or (λ e. is_failure e || is_sent_away e) o false) (outcome_before c r n es e still outside) ∙ both.0)
      (ap (list_any (begins_sending_to r n)) (after_last-more (is_outcome c r n) es e outside)
      ∙ (list_any-append (begins_sending_to r n) (after_last (is_outcome c r n) es) (e ∷ []) ∙ or_from _ _ both.1 (rw quiet refl)))

  -- an outcome of the cell that is no failure and doesn't send the leaf away
  here_sure : (es : List Event) (e : Event) → is_reset r n e ≡ false → is_outcome c r n e ≡ true → is_failure e || is_sent_away e ≡ false
      → IsSure (es ++ e ∷ [])
  here_sure es e still inside good =
      or_from _ _ (ap (λ o. option_map_or (λ e. is_failure e || is_sent_away e) o false) (outcome_here c r n es e still inside) ∙ good)
      (ap (list_any (begins_sending_to r n)) (after_last-here (is_outcome c r n) es e inside))

  pub sure_begun : (es : List Event) (k : ℕ) (y : Action) → is_sent_to r n y ≡ false → IsSure es → IsSure (es ++ Begin k y ∷ [])
  sure_begun es k y quiet sure = other_sure es (Begin k y) refl refl quiet sure

  pub sure_waited : (es : List Event) (s : ℕ) → IsSure es → IsSure (es ++ Wait s ∷ [])
  sure_waited es s sure = other_sure es (Wait s) refl refl refl sure

  not_away : (k m : ℕ) (y : Action) (o : Outcome) → is_of_cell r n y ≡ true → is_sending_from r n y ≡ false → is_sent_away (Ended k y o m) ≡ false
  not_away k m (Fence node) o h g = refl
  not_away k m (Probe leaf node) o h g = refl
  not_away k m (Operation op leaf node i held) o h g = refl
  not_away k m (MigrateTo leaf source to) o h g = cc
  not_away k m (MigrateFrom leaf source to) o h g = refl

  pub sure_done : (es : List Event) (k m : ℕ) (y : Action) (o : Outcome) → is_success c y o ≡ true → is_sending_from r n y ≡ false → IsSure es → IsSure (es ++ Ended k y o m ∷ [])
  sure_done es k m y o ok stays sure = by (is_of_cell r n y) refl (is_ignored c y o) refl
    where
      by : (here : Bool) → is_of_cell r n y ≡ here → (ignored : Bool) → is_ignored c y o ≡ ignored → IsSure (es ++ Ended k y o m ∷ [])
      by true e false f =
          here_sure es (Ended k y o m) refl (rw e (rw f refl)) (or_from (is_bad y o) (is_sent_away (Ended k y o m)) (success_good c y o ok f) (not_away k m y o e stays))
      by true e true f = other_sure es (Ended k y o m) refl (rw e (rw f refl)) refl sure
      by false e ignored f = other_sure es (Ended k y o m) refl (rw e refl) refl sure

  pub sure_turned : (es : List Event) (k m : ℕ) (x : Action) (o : Outcome) → is_success c x o ≡ true → is_of_cell r n x ≡ true → is_ignored c x o ≡ false → is_sending_from r n x ≡ false
      → IsSure (es ++ Ended k x o m ∷ [])
  sure_turned es k m x o ok here kept stays =
      here_sure es (Ended k x o m) refl (rw here (rw kept refl)) (or_from (is_bad x o) (is_sent_away (Ended k x o m)) (success_good c x o ok kept) (not_away k m x o here stays))
