-- Each transition of a run but the last takes an answer, where the answers to come are told.
use Rattle.std.proofs.Common.{arith, ◌≡◌, ◌<◌, ◌≤◌, ◌+◌, ℕ, Bool, true, false, List, [], ◌++◌, refl, ◌∙◌, sym}
use Rattle.std.specs.Prelude.{Option, Some, None}
use Rattle.std.specs.List.{list_any}
use Rattle.std.proofs.lemmas.List.Folds.{list_any-append}
use Rattle.lemmas.proofs.Booleans.{first_passes}
use Rattle.cluster_types.specs.declared.cluster.Cluster.{Cluster}
use Rattle.cluster_types.specs.declared.journal.Answer.{Answer}
use Rattle.cluster_types.specs.declared.journal.Event.{Event}
use Rattle.cluster_types.specs.declared.journal.Promotion.{Promotion}
use Rattle.cluster_types.specs.declared.run.RunLine.{RunLine}
use Rattle.cluster_types.specs.Runs.{RunStanding, due, amid, idle, RunsOn, plans, goes, completes, aborts, answers, Runs, IsRunUpTo}
use Rattle.cluster_types.specs.Sources.{Says, told as said_first, used_up, untold}
use Rattle.cluster_types.specs.Steps.{Transition, StepsOn, begins, takes, is_silent, aborts as aborts_it, ended, has_aborted}
use Rattle.run_safety.specs.TwoRuns.{AreAnswersTold, count_told, transition_number_at}
use Rattle.run_safety.proofs.Along.{along}
use Rattle.run_safety.proofs.OneRun.{run_told}
use Rattle.run_safety.proofs.Silent.{silent_aborts_nothing}

count_said : (whole : Bool) (rest left : Option (List Answer)) (said : Option Answer) → Says whole rest said left → AreAnswersTold rest → (given : Answer) → said ≡ Some given
    → count_told rest ≡ count_told left + 1
count_said whole _ _ _ (said_first given rest) h other e = omega arith
count_said whole _ _ _ (used_up over) h other e = absurd (let f : ⊥ = cc in f)
count_said whole _ _ _ (untold said) h other e = absurd h

count_silent : (whole : Bool) (rest left : Option (List Answer)) (said : Option Answer) → Says whole rest said left → AreAnswersTold rest → said ≡ None → count_told rest ≡ count_told left
count_silent whole _ _ _ (said_first given rest) h e = absurd (let f : ⊥ = cc in f)
count_silent whole _ _ _ (used_up over) h e = refl
count_silent whole _ _ _ (untold said) h e = absurd h

-- what a step of a transition takes: an answer, or what it adds doesn't abort
pub data IsCounted (t : Transition) (events : List Event) (rest left : Option (List Answer)) : Type 0 where
  one_taken : count_told rest ≡ count_told left + 1 → IsCounted t events rest left
  none_taken : count_told rest ≡ count_told left → list_any (aborts_it t.cluster) events ≡ false → IsCounted t events rest left

step_counted : (t : Transition) (whole : Bool) (since events : List Event) (rest left : Option (List Answer)) → AreAnswersTold rest → StepsOn t whole since rest events left → IsCounted t events rest left
step_counted t whole since _ rest _ told (begins _ k a begin) = none_taken refl refl
step_counted t whole since _ rest left told (takes _ _ given said taken) = one_taken (count_said whole rest left (Some given) said told given refl)
step_counted t whole since _ rest left told (is_silent _ _ k a said ends) =
    none_taken (count_silent whole rest left None said told refl) (silent_aborts_nothing t since k a ends.action)

module _ (c : Cluster) (promotions : List Promotion) (whole : Bool) (most : ℕ) where
  -- the number of the transition and the answers that are left together stay in bounds
  abbrev Counts : RunStanding → Option (List Answer) → Type 0
  Counts (due k es) rest = k + count_told rest ≤ most
  Counts (amid k t since) rest = (k + count_told rest ≤ most) × (has_aborted t since ≡ true → k + count_told rest < most)
  Counts (idle k es) rest = k + count_told rest ≤ most

  goes_counted : (k : ℕ) (t : Transition) (since events : List Event) (rest left : Option (List Answer)) → IsCounted t events rest left → Counts (amid k t since) rest
      → Counts (amid k t (since ++ events)) left
  goes_counted k t since events rest left (one_taken e) counts = (let h = counts.0 in omega (arith, e, h), λ aborted. let h = counts.0 in omega (arith, e, h))
  goes_counted k t since events rest left (none_taken e calm) counts = (
    let h = counts.0 in omega (arith, e, h),
    λ aborted.
        let before : has_aborted t since ≡ true =
        first_passes (has_aborted t since) (list_any (aborts_it t.cluster) events) (sym (list_any-append (aborts_it t.cluster) since events) ∙ aborted) calm in
        let h = counts.1 before in omega (arith, e, h),
  )

  one_counted : (at next : RunStanding) (rest left : Option (List Answer)) (lines : List RunLine) → AreAnswersTold rest → RunsOn c promotions whole at rest lines next left → Counts at rest → Counts next left
  one_counted _ _ rest _ _ told (plans k es _ placed actions plan) counts = (counts, λ aborted. absurd (let f : ⊥ = cc in f))
  one_counted _ _ rest left _ told (goes k t since events _ _ step) counts = goes_counted k t since events rest left (step_counted t whole since events rest left told step) counts
  one_counted _ _ rest _ _ told (completes k t since _ ended unaborted) counts = counts.0
  one_counted _ _ rest _ _ told (aborts k t since _ ended aborted) counts = let h = counts.1 aborted in omega (arith, h)
  one_counted _ _ rest left _ told (answers k es _ _ given said applies) counts = let e = count_said whole rest left (Some given) said told given refl in omega (arith, e, counts)

  pub all_counted : (at later : RunStanding) (rest left : Option (List Answer)) (lines : List RunLine) → AreAnswersTold rest → Runs c promotions whole at rest lines later left → Counts at rest
      → Counts later left
  all_counted at later rest left lines told runs counts =
      (along c promotions whole (λ p behind _. AreAnswersTold behind × Counts p behind)
      (λ p q behind after before more step both. (run_told c promotions whole p q behind after more step both.0, one_counted p q behind after more both.0 step both.1))
      at later rest left [] lines runs (told, counts)).1

  pub numbers_counted : (at : RunStanding) (left : Option (List Answer)) → Counts at left → transition_number_at at + count_told left ≤ most
  numbers_counted (due k es) left counts = counts
  numbers_counted (amid k t since) left counts = counts.0
  numbers_counted (idle k es) left counts = counts

module _ (c : Cluster) (promotions : List Promotion) (whole : Bool) (es : List Event) (rest left : Option (List Answer)) (lines : List RunLine) (told : AreAnswersTold rest) where
  pub few_transitions : (at : RunStanding) → Runs c promotions whole (due 1 es) rest lines at left → transition_number_at at + count_told left ≤ 1 + count_told rest
  few_transitions at runs =
      numbers_counted c promotions whole (1 + count_told rest) at left
      (all_counted c promotions whole (1 + count_told rest) (due 1 es) at rest left lines told runs (omega arith))

  pub never_most : {R : Type 0} (most : ℕ) (journal : List Event) → count_told rest < most → IsRunUpTo c promotions whole most es rest lines journal left → R
  never_most most journal low runs = absurd (let h = few_transitions (due (most + 1) journal) runs in let f : ⊥ = omega (arith, h, low) in f)
