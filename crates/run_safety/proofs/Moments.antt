-- The moment of a run stays within its bound.
use Rattle.std.proofs.Common.{arith, ◌≡◌, ◌<◌, ◌+◌, ◌^◌, nat_lt, ℕ, Bool, true, List, [], ◌∷◌, ◌++◌, refl, sym, subst, filter, append-nil, append_assoc}
use Rattle.std.specs.Prelude.{Option, Some, None, map, find, sum_by}
use Rattle.std.specs.Option.{option_map_or}
use Rattle.std.proofs.lemmas.List.Sums.{sum_by-append}
use Rattle.cluster_types.specs.declared.cluster.Cluster.{Cluster}
use Rattle.cluster_types.specs.declared.journal.Action.{Action}
use Rattle.cluster_types.specs.declared.journal.Answer.{Answer}
use Rattle.cluster_types.specs.declared.journal.Answer.TheVariants as answer
use Rattle.cluster_types.specs.declared.journal.Event.{Event}
use Rattle.cluster_types.specs.declared.journal.Event.TheVariants.{Lost, Ended}
use Rattle.cluster_types.specs.declared.journal.Outcome.{Outcome}
use Rattle.cluster_types.specs.declared.journal.Outcome.TheVariants.{Code, TimedOut, Gone}
use Rattle.cluster_types.specs.declared.journal.Promotion.{Promotion}
use Rattle.cluster_types.specs.declared.run.RunLine.{RunLine}
use Rattle.cluster_types.specs.AnswersThatApply.{is_number_of, most_from_outside}
use Rattle.cluster_types.specs.Journals.{is_on, moment_of, seconds_of}
use Rattle.cluster_types.specs.Runs.{RunStanding, RunsOn, plans, goes, completes, aborts, answers, Runs, journal_at}
use Rattle.cluster_types.specs.Steps.{Transition, StepsOn, begins, takes, is_silent, Applies, answer_events, in_flight_by_number, journal, count_from_outside, idling, silent_code}
use Rattle.lemmas.proofs.Booleans.{later}
use Rattle.run_safety.proofs.Along.{along}

no_seconds : (m : ℕ) (o : Outcome) (p : Option (ℕ × Action)) → sum_by seconds_of (option_map_or (λ (p : ℕ × Action). Ended p.0 p.1 o m ∷ []) p []) ≡ 0
no_seconds m o (Some p) = refl
no_seconds m o None = refl

gone_seconds : (m n : ℕ) (ps : List (ℕ × Action)) → sum_by seconds_of (map (λ (p : ℕ × Action). Ended p.0 p.1 Gone m) ps ++ Lost n ∷ []) ≡ 0
gone_seconds m n [] = refl
gone_seconds m n (p ∷ ps) = gone_seconds m n ps

module _ (t : Transition) (since : List Event) where
  -- what was said adds no seconds, or so many that the moment stays in its bound
  pub answer_seconds : (given : Answer) → Applies t since given → moment_of (journal t since) < 2 ^ 40 → moment_of (journal t since) + sum_by seconds_of (answer_events t since given) < 2 ^ 40
  answer_seconds (answer.End k code) applies low =
      let e = no_seconds (moment_of (journal t since)) (Code code) (find (is_number_of k) (in_flight_by_number t since)) in omega (arith, e, low)
  answer_seconds (answer.Timeout k) applies low =
      let e = no_seconds (moment_of (journal t since)) TimedOut (find (is_number_of k) (in_flight_by_number t since)) in omega (arith, e, low)
  answer_seconds (answer.Lost n) applies low =
      let e = gone_seconds (moment_of (journal t since)) n (filter (λ (p : ℕ × Action). is_on n p.1) (in_flight_by_number t since)) in omega (arith, e, low)
  answer_seconds (answer.Up n) applies low = omega (arith, low)
  answer_seconds (answer.Quorum now) applies low = omega (arith, low)
  answer_seconds (answer.Wait seconds) applies low =
      let h : nat_lt (moment_of (journal t since) + seconds) (2 ^ 40) ≡ true = later (nat_lt (count_from_outside t since) most_from_outside) _ applies in grind (arith, h)
  answer_seconds (answer.Report n r interval code) applies low = omega (arith, low)

  step_seconds : (whole : Bool) (events : List Event) (rest left : Option (List Answer)) → StepsOn t whole since rest events left → moment_of (journal t since) < 2 ^ 40
      → moment_of (journal t since) + sum_by seconds_of events < 2 ^ 40
  step_seconds whole _ rest _ (begins _ k a begin) low = omega (arith, low)
  step_seconds whole _ rest left (takes _ _ given said taken) low = answer_seconds given taken.applies low
  step_seconds whole _ rest left (is_silent _ _ k a said ends) low =
      let e = no_seconds (moment_of (journal t since)) (Code (silent_code a)) (find (is_number_of k) (in_flight_by_number t since)) in omega (arith, e, low)

joined_moment : (xs ys : List Event) → moment_of xs + sum_by seconds_of ys < 2 ^ 40 → moment_of (xs ++ ys) < 2 ^ 40
joined_moment xs ys h = subst (λ z. z < 2 ^ 40) (sym (sum_by-append seconds_of xs ys)) h

module _ (c : Cluster) (promotions : List Promotion) (whole : Bool) where
  one_moment : (at next : RunStanding) (rest left : Option (List Answer)) (lines : List RunLine) → RunsOn c promotions whole at rest lines next left
      → moment_of (journal_at at) < 2 ^ 40 → moment_of (journal_at next) < 2 ^ 40
  one_moment _ _ rest _ _ (plans k es _ placed actions plan) low = joined_moment es [] (omega (arith, low))
  one_moment _ _ rest left _ (goes k t since events _ _ step) low =
      subst (λ z. moment_of z < 2 ^ 40) (append_assoc t.planned_at since events) (joined_moment (journal t since) events (step_seconds t since whole events rest left step low))
  one_moment _ _ rest _ _ (completes k t since _ over unaborted) low = low
  one_moment _ _ rest _ _ (aborts k t since _ over aborted) low = low
  one_moment _ _ rest left _ (answers k es _ _ given said applies) low =
      let t = idling c es in
      let same : journal t [] ≡ es = append-nil es in
      joined_moment es (answer_events t [] given) (subst (λ z. moment_of z + sum_by seconds_of (answer_events t [] given) < 2 ^ 40) same
      (answer_seconds t [] given applies (subst (λ z. moment_of z < 2 ^ 40) (sym same) low)))

  pub moments_bounded : (at later : RunStanding) (rest left : Option (List Answer)) (lines : List RunLine) → Runs c promotions whole at rest lines later left
      → moment_of (journal_at at) < 2 ^ 40 → moment_of (journal_at later) < 2 ^ 40
  moments_bounded at later rest left lines runs low =
      along c promotions whole (λ p _ _. moment_of (journal_at p) < 2 ^ 40) (λ p q middle behind before more step h. one_moment p q middle behind more step h) at later rest left [] lines runs low
