-- An end that nobody reported is a success, so it doesn't abort; and there is none where the answers are known to be not all.
use Rattle.std.proofs.Common.{◌≡◌, ◌==◌, ℕ, true, false, List, [], ◌∷◌, refl, ◌∙◌, sym, subst, eqb-true}
use Rattle.std.specs.Prelude.{Option, Some, None, find}
use Rattle.std.specs.List.{list_any}
use Rattle.std.specs.Option.{option_map_or}
use Rattle.cluster_types.specs.declared.cluster.Cluster.{Cluster}
use Rattle.cluster_types.specs.declared.journal.Action.{Action}
use Rattle.cluster_types.specs.declared.journal.Action.TheVariants.{Fence, Probe, Operation, MigrateTo, MigrateFrom}
use Rattle.cluster_types.specs.declared.journal.Answer.{Answer}
use Rattle.cluster_types.specs.declared.journal.Event.{Event}
use Rattle.cluster_types.specs.declared.journal.Event.TheVariants.{Ended}
use Rattle.cluster_types.specs.declared.journal.Outcome.TheVariants.{Code}
use Rattle.cluster_types.specs.declared.journal.Promotion.{Promotion}
use Rattle.cluster_types.specs.declared.leaf.Op.TheVariants.{Start, Stop, Promote, Demote, Monitor}
use Rattle.cluster_types.specs.declared.leaf.Role.TheVariants as role
use Rattle.cluster_types.specs.declared.run.RunLine.{RunLine}
use Rattle.cluster_types.specs.AnswersThatApply.{end_event, is_number_of}
use Rattle.cluster_types.specs.Journals.{moment_of}
use Rattle.cluster_types.specs.Outcomes.{is_code_among}
use Rattle.cluster_types.specs.Runs.{due, IsWholeRun, RunStanding, IsOver, idle, amid}
use Rattle.cluster_types.specs.Steps.{Transition, StepsOn, begins, takes, is_silent, aborts, action_at, ended, expected_codes, in_flight_by_number, journal, silent_code}
use Rattle.run_safety.proofs.Each.{found}
use Rattle.run_safety.proofs.Shapes.{Flies, all_fly}
use Rattle.run_safety.specs.TwoRuns.{AreAnswersTold, IsNoSilentEnd, is_begin, is_taken}
use Rattle.run_safety.proofs.OneRun.{runs_told}
use Rattle.run_safety.proofs.Said.{says_something}

expected : (a : Action) → is_code_among (expected_codes a) (Code (silent_code a)) ≡ true
expected (Fence n) = refl
expected (Probe r n) = refl
expected (Operation Start r n interval role) = refl
expected (Operation Stop r n interval role) = refl
expected (Operation Promote r n interval role) = refl
expected (Operation Demote r n interval role) = refl
expected (Operation Monitor r n interval role.Started) = refl
expected (Operation Monitor r n interval role.Promoted) = refl
expected (MigrateTo r source to) = refl
expected (MigrateFrom r source to) = refl

unaborted : (c : Cluster) (k m : ℕ) (a b : Action) → a ≡ b → aborts c (Ended k b (Code (silent_code a)) m) ≡ false
unaborted c k m a b e = subst (λ z. aborts c (Ended k z (Code (silent_code a)) m) ≡ false) e (rw (expected a) refl)

module _ (t : Transition) (since : List Event) where
  pub silent_aborts_nothing : (k : ℕ) (a : Action) → action_at t k ≡ Some a → list_any (aborts t.cluster) (ended t since k (Code (silent_code a))) ≡ false
  silent_aborts_nothing k a is = by (find (is_number_of k) (in_flight_by_number t since)) refl
    where
      same : (p : ℕ × Action) → action_at t p.0 ≡ Some p.1 → (p.0 == k) ≡ true → a ≡ p.1
      same p h e = let g : action_at t k ≡ Some p.1 = subst (λ z. action_at t z ≡ Some p.1) (eqb-true p.0 k e) h in let f : Some a ≡ Some p.1 = sym is ∙ g in cc

      by : (p : Option (ℕ × Action)) → find (is_number_of k) (in_flight_by_number t since) ≡ p
          → list_any (aborts t.cluster) (option_map_or (λ p. end_event t.cluster (journal t since) (in_flight_by_number t since) (Code (silent_code a)) p ∷ []) p []) ≡ false
      by None e = refl
      by (Some p) e = found (Flies t since) (is_number_of k) _ (in_flight_by_number t since) p (all_fly t since) e (λ f number. rw (unaborted t.cluster p.0 (moment_of (journal t since)) a p.1 (same p f.action number)) refl)

  pub step_heard : (events : List Event) (rest left : Option (List Answer)) → AreAnswersTold rest → StepsOn t false since rest events left → IsNoSilentEnd t false since rest events left
  step_heard _ rest _ told (begins _ k a begin) = is_begin k a begin refl refl
  step_heard _ rest left told (takes _ _ given said taken) = is_taken given said taken refl
  step_heard _ rest left told (is_silent _ _ k a said ends) = says_something rest left told said

pub not_over : {R : Type 0} (c : Cluster) (promotions : List Promotion) (es left : List Event) (rest : Option (List Answer)) (lines : List RunLine) → AreAnswersTold rest
    → IsWholeRun c promotions false es rest lines left → R
not_over {R} c promotions es left rest lines told run = by run.last run.behind run.over (runs_told c promotions false (due 1 es) run.last rest run.behind lines run.steps told)
  where
    by : (at : RunStanding) (behind : Option (List Answer)) → IsOver c promotions false at behind → AreAnswersTold behind → R
    by (due k es) behind over told = absurd over
    by (amid k t since) behind over told = absurd over
    by (idle k es) behind over told = says_something behind behind told over
