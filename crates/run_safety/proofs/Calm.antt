-- A transition that nothing aborts: in it come begins, successes and waits alone.
use Rattle.std.proofs.Common.{arith, ◌≡◌, ℕ, Bool, true, false, List, [], ◌∷◌, ◌++◌, append-nil, refl, sym, subst, ◌∙◌}
use Rattle.std.specs.Prelude.{Option, Some}
use Rattle.std.specs.List.{list_any}
use Rattle.std.proofs.lemmas.Bool.{not-false, not-true, or_parts, or_right}
use Rattle.std.proofs.lemmas.List.Folds.{list_any-append}
use Rattle.lemmas.proofs.Booleans.{sooner, later}
use Rattle.cluster_types.specs.declared.cluster.Cluster.{Cluster}
use Rattle.cluster_types.specs.declared.journal.Action.{Action}
use Rattle.cluster_types.specs.declared.journal.Answer.{Answer}
use Rattle.cluster_types.specs.declared.journal.Event.{Event}
use Rattle.cluster_types.specs.declared.journal.Event.TheVariants.{Lost, Wait, Begin, Ended}
use Rattle.cluster_types.specs.declared.journal.Outcome.{Outcome}
use Rattle.cluster_types.specs.declared.journal.Outcome.TheVariants.{Code, TimedOut, Gone}
use Rattle.cluster_types.specs.declared.leaf.Role.{Role}
use Rattle.cluster_types.specs.declared.leaf.Role.TheVariants as role
use Rattle.cluster_types.specs.AnswersThatApply.{monitor_action, role_of_interval}
use Rattle.cluster_types.specs.Fields.{monitors}
use Rattle.cluster_types.specs.Outcomes.{is_bad, is_ignored}
use Rattle.cluster_types.specs.Steps.{Transition, Begins, GoesBySteps, here, one_more, aborts, action_at, has_aborted, is_number_in_flight, is_success}
use Rattle.run_safety.proofs.InOrder.{aborted_before}
use Rattle.run_safety.proofs.Shapes.{Adds, nothing, begun as begins, over, reported, lost, up, quorum, wait, isnt_gone, step_adds, gone_with}
use Rattle.run_safety.proofs.Truths.{refuse}

module _ (t : Transition) where
  -- actions begin, those in flight succeed, and time goes by
  pub data Calm : List Event → Type 0 where
    none : Calm []
    begun : (since : List Event) (k : ℕ) (a : Action) → Calm since → Begins t since k a → Calm (since ++ Begin k a ∷ [])
    done : (since : List Event) (k moment : ℕ) (a : Action) (o : Outcome) → Calm since → action_at t k ≡ Some a → is_number_in_flight t since k ≡ true
        → is_success t.cluster a o ≡ true → Calm (since ++ Ended k a o moment ∷ [])
    waited : (since : List Event) (seconds : ℕ) → Calm since → Calm (since ++ Wait seconds ∷ [])

unless_gone : (c : Cluster) (k m : ℕ) (a : Action) (o : Outcome) → isnt_gone o ≡ true → aborts c (Ended k a o m) ≡ false → is_success c a o ≡ true
unless_gone c k m a (Code code) h g = not-false (is_success c a (Code code)) g
unless_gone c k m a TimedOut h g = not-false (is_success c a TimedOut) g
unless_gone c k m a Gone h g = cc

-- a report is of a failure
news_fails : (c : Cluster) (r n interval code m : ℕ) → is_bad (monitor_action c r n interval) (Code code) ≡ true
    → is_ignored c (monitor_action c r n interval) (Code code) ≡ false → aborts c (Ended 0 (monitor_action c r n interval) (Code code) m) ≡ true
news_fails c r n interval code m bad kept = by (role_of_interval (monitors c r) interval) refl
  where
    by : (held : Role) → role_of_interval (monitors c r) interval ≡ held → aborts c (Ended 0 (monitor_action c r n interval) (Code code) m) ≡ true
    by role.Started e = rw kept (rw e (grind arith))
    by role.Promoted e = rw kept (rw e (grind arith))

module _ (t : Transition) where
  pub add_calm : (since events : List Event) → Adds t since events → Calm t since → list_any (aborts t.cluster) events ≡ false → Calm t (since ++ events)
  add_calm since _ nothing calm h = subst (Calm t) (sym (append-nil since)) calm
  add_calm since _ (begins k a allowed) calm h = begun since k a calm allowed
  add_calm since _ (over k a o m flies g) calm h = done since k m a o calm flies.action flies.in_flight (unless_gone t.cluster k m a o g (or_parts (aborts t.cluster (Ended k a o m)) false h).0)
  add_calm since _ (reported r n interval code m news) calm h =
      let bad : is_bad (monitor_action t.cluster r n interval) (Code code) ≡ true = later _ _ (sooner _ _ (sooner _ _ news)) in
      let kept : is_ignored t.cluster (monitor_action t.cluster r n interval) (Code code) ≡ false = not-true _ (later _ _ (sooner _ _ news)) in
      let unaborted = (or_parts (aborts t.cluster (Ended 0 (monitor_action t.cluster r n interval) (Code code) m)) false h).0 in
      refuse _ unaborted (news_fails t.cluster r n interval code m bad kept)
  add_calm since _ (lost n there) calm h =
      refuse _ h (list_any-append (aborts t.cluster) (gone_with t since n) (Lost n ∷ []) ∙ or_right (list_any (aborts t.cluster) (gone_with t since n)) _ refl)
  add_calm since _ (up n) calm h = absurd (let f : ⊥ = cc in f)
  add_calm since _ (quorum now) calm h = absurd (let f : ⊥ = cc in f)
  add_calm since _ (wait seconds) calm h = waited since seconds calm

  pub calm_on : (whole : Bool) (since later : List Event) (rest left : Option (List Answer)) → GoesBySteps t whole since rest later left
      → (has_aborted t since ≡ false → Calm t since) → has_aborted t later ≡ false → Calm t later
  calm_on whole since _ rest _ (here _ _) calm h = calm h
  calm_on whole since after rest left (one_more _ events _ _ middle _ step next) calm h =
      calm_on whole (since ++ events) after middle left next
      (λ g. let parts = aborted_before t since events g in add_calm since events (step_adds t since whole events rest middle step) (calm parts.0) parts.1) h

  -- until an abort
  pub calm_until : (whole : Bool) (rest left : Option (List Answer)) (later : List Event) → GoesBySteps t whole [] rest later left → has_aborted t later ≡ false → Calm t later
  calm_until whole rest left after goes h = calm_on whole [] after rest left goes (λ g. none) h
