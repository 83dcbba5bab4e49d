-- Between two transitions nothing is in flight, whatever the plans are like.
use Rattle.std.proofs.Common.{arith, ◌≡◌, ℕ, Bool, List, [], ◌∙◌}
use Rattle.std.specs.Prelude.{Option, Some, None}
use Rattle.cluster_types.specs.declared.cluster.Cluster.{Cluster}
use Rattle.cluster_types.specs.declared.journal.Action.{Action}
use Rattle.cluster_types.specs.declared.journal.Answer.{Answer}
use Rattle.cluster_types.specs.declared.journal.Event.{Event}
use Rattle.cluster_types.specs.declared.journal.Promotion.{Promotion}
use Rattle.cluster_types.specs.declared.run.RunLine.{RunLine}
use Rattle.cluster_types.specs.Journals.{Orderly, in_flight_by_begin}
use Rattle.cluster_types.specs.Runs.{RunStanding, due, amid, idle, RunsOn, plans, goes, completes, aborts, answers, Runs, IsBetween, journal_at}
use Rattle.cluster_types.specs.Safety.{IsAtRest, IsSafeAt, IsSafeRun}
use Rattle.cluster_types.specs.Steps.{GoesBySteps, here as none_yet, action_at, answer_events, idling}
use Rattle.cluster_types.proofs.SourceLaws.{goes-more, none-in_flight, step-untold}
use Rattle.cluster_types.proofs.JournalLaws.{nothing_begun}
use Rattle.run_safety.proofs.AtRest.{nothing_left}
use Rattle.run_safety.proofs.InFlight.{number_within}
use Rattle.run_safety.proofs.SafeRuns.{silent}
use Rattle.run_safety.proofs.Shapes.{answer_adds}
use Rattle.run_safety.proofs.Along.{along}

no_action : (c : Cluster) (es : List Event) (k : ℕ) (a : Action) → action_at (idling c es) k ≡ Some a → ⊥
no_action c es k a is = let within = number_within [] k a is in let f : ⊥ = omega (arith, within.0, within.1) in f

module _ (c : Cluster) (promotions : List Promotion) (whole : Bool) where
  -- between two transitions nothing is in flight; amid one it went on from a plan for such a journal
  abbrev Rests : RunStanding → Type 0
  Rests (due k es) = in_flight_by_begin es ≡ []
  Rests (amid k t since) = (in_flight_by_begin t.planned_at ≡ []) × GoesBySteps t whole [] None since None
  Rests (idle k es) = in_flight_by_begin es ≡ []

  one_rests : (at next : RunStanding) (rest left : Option (List Answer)) (lines : List RunLine) → RunsOn c promotions whole at rest lines next left → Rests at → Rests next
  one_rests _ _ rest _ _ (plans k es _ placed actions plan) at = (at, none_yet [] None)
  one_rests _ _ rest left _ (goes k t since events _ _ step) at =
      (at.0, goes-more t whole [] since events None None None at.1 (step-untold t whole since events rest left step))
  one_rests _ _ rest _ _ (completes k t since _ ended unaborted) at = nothing_left t whole None None since at.0 at.1 ended.idle
  one_rests _ _ rest _ _ (aborts k t since _ ended aborted) at = nothing_left t whole None None since at.0 at.1 ended.idle
  one_rests _ _ rest left _ (answers k es _ _ given said applies) at =
      let t = idling c es in
      none-in_flight es (answer_events t [] given) at
      ∙ nothing_begun (answer_events t [] given) (silent t [] (answer_events t [] given) (λ k a begins. no_action c es k a begins.action) (answer_adds t [] given applies))

  pub none_flies : (first : List Event) (at : RunStanding) (rest left : Option (List Answer)) (lines : List RunLine) → in_flight_by_begin first ≡ []
      → Runs c promotions whole (due 1 first) rest lines at left → IsBetween at → in_flight_by_begin (journal_at at) ≡ []
  none_flies first at rest left lines none runs = by at
      (along c promotions whole (λ p _ _. Rests p) (λ p q middle behind before more step h. one_rests p q middle behind more step h) (due 1 first) at rest left [] lines runs none)
    where
      by : (at : RunStanding) → Rests at → IsBetween at → in_flight_by_begin (journal_at at) ≡ []
      by (due k es) h between = h
      by (amid k t since) h between = absurd between
      by (idle k es) h between = h

  -- a safe run has its journal in order all the way, and at rest between two transitions
  pub in_order : (es : List Event) (at : RunStanding) (rest left : Option (List Answer)) (lines : List RunLine) → IsSafeRun c promotions whole es rest
      → Runs c promotions whole (due 1 es) rest lines at left → Orderly (journal_at at)
  in_order es at rest left lines safe runs = by at (safe at lines left runs)
    where
      by : (at : RunStanding) → IsSafeAt c promotions at → Orderly (journal_at at)
      by (due k es) h = h.0
      by (amid k t since) h = h.0
      by (idle k es) h = h.0

  pub at_rest : (es : List Event) (at : RunStanding) (rest left : Option (List Answer)) (lines : List RunLine) → IsSafeRun c promotions whole es rest
      → Runs c promotions whole (due 1 es) rest lines at left → IsBetween at → IsAtRest (journal_at at)
  at_rest es at rest left lines safe runs = by at (safe at lines left runs)
    where
      by : (at : RunStanding) → IsSafeAt c promotions at → IsBetween at → IsAtRest (journal_at at)
      by (due k es) h between = h
      by (amid k t since) h between = absurd between
      by (idle k es) h between = h
