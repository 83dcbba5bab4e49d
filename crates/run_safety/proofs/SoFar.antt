-- Runs are put together; and where the answers to come are known to be not all, a run that asks for one more goes no step.
use Rattle.std.proofs.Common.{◌≡◌, Bool, false, List, [], ◌++◌, refl, ap, ◌∙◌, sym, subst, append-nil, append_assoc}
use Rattle.std.specs.Prelude.{Option, Some, None}
use Rattle.cluster_types.specs.declared.cluster.Cluster.{Cluster}
use Rattle.cluster_types.specs.declared.journal.Answer.{Answer}
use Rattle.cluster_types.specs.declared.journal.Event.{Event}
use Rattle.cluster_types.specs.declared.journal.Promotion.{Promotion}
use Rattle.cluster_types.specs.declared.run.RunLine.{RunLine}
use Rattle.cluster_types.specs.Runs.{RunStanding, due, RunsOn, plans, goes, completes, aborts, answers, Runs, here, one_more, EndsByLine, not_yet, complete, aborted, IsAsking, IsCutRun, IsRunSoFar, IsStoppedRun, IsWholeRun, journal_at}
use Rattle.cluster_types.specs.Sources.{Says}
use Rattle.cluster_types.specs.Steps.{Transition, StepsOn, begins, takes, is_silent, IsWaiting}
use Rattle.run_safety.specs.TwoRuns.{AreAnswersTold, IsFront}
use Rattle.run_safety.specs.OnePlan.{PlansAreOne}
use Rattle.run_safety.proofs.Beginnings.{begins_whole}
use Rattle.run_safety.proofs.OneEnd.{IsStuck, both_stuck, cut_run_stuck}
use Rattle.run_safety.proofs.OneStep.{ended_waits, unsettled}
use Rattle.run_safety.proofs.Said.{says_just, says_something, some_or_none}

module _ (c : Cluster) (promotions : List Promotion) (whole : Bool) where
  pub runs_joined : (at middle later : RunStanding) (rest behind left : Option (List Answer)) (lines more : List RunLine) → Runs c promotions whole at rest lines middle behind
      → Runs c promotions whole middle behind more later left → Runs c promotions whole at rest (lines ++ more) later left
  runs_joined at _ later rest _ left _ more (here _ _) two = two
  runs_joined at middle later rest behind left _ more (one_more _ next _ _ unread _ first others step runs) two =
      subst (λ z. Runs c promotions whole at rest z later left) (sym (append_assoc first others more))
      (one_more at next later rest unread left first (others ++ more) step (runs_joined next middle later unread behind left others more runs two))

  pub runs_once : (at next : RunStanding) (rest left : Option (List Answer)) (lines : List RunLine) → RunsOn c promotions whole at rest lines next left → Runs c promotions whole at rest lines next left
  runs_once at next rest left lines step = subst (λ z. Runs c promotions whole at rest z next left) (append-nil lines) (one_more at next next rest left left lines [] step (here next left))

  -- one step after those so far
  pub runs_more : (at middle next : RunStanding) (rest behind left : Option (List Answer)) (lines more : List RunLine) → Runs c promotions whole at rest lines middle behind
      → RunsOn c promotions whole middle behind more next left → Runs c promotions whole at rest (lines ++ more) next left
  runs_more at middle next rest behind left lines more runs step = runs_joined at middle next rest behind left lines more runs (runs_once middle next behind left more step)

  closes_runs : (at later : RunStanding) (rest : Option (List Answer)) (lines : List RunLine) → EndsByLine at lines later → Runs c promotions whole at rest lines later rest
  closes_runs at _ rest _ (not_yet _) = here at rest
  closes_runs _ _ rest _ (complete k t since over h) = runs_once _ _ rest rest _ (completes k t since rest over h)
  closes_runs _ _ rest _ (aborted k t since over h) = runs_once _ _ rest rest _ (aborts k t since rest over h)

  -- what was told before a stop, with the last call and the line that closes the transition
  pub stopped_runs : (es left : List Event) (rest behind : Option (List Answer)) (told call closing : List RunLine) (run : IsStoppedRun c promotions whole es rest told call closing left behind)
      → Runs c promotions whole (due 1 es) rest ((told ++ call) ++ closing) run.last behind
  stopped_runs es left rest behind told call closing run =
      runs_joined (due 1 es) run.next run.last rest behind behind (told ++ call) closing
      (runs_more (due 1 es) run.before run.next rest run.middle behind told call run.steps run.stopped) (closes_runs run.next run.last behind closing run.closes)

  pub stopped_begins : (es left right : List Event) (rest behind : Option (List Answer)) (told call closing others : List RunLine) → PlansAreOne c promotions → AreAnswersTold rest
      → IsStoppedRun c promotions whole es rest told call closing left behind → IsWholeRun c promotions whole es rest others right
      → IsFront ((told ++ call) ++ closing) others × IsFront left right
  stopped_begins es left right rest behind told call closing others one_plan known run over =
      let both = begins_whole c promotions whole one_plan es rest known run.last behind ((told ++ call) ++ closing) (stopped_runs es left rest behind told call closing run) right others over in
      (both.0, subst (λ z. IsFront z right) (sym run.leaves) both.1)

pub nothing_said : {R : Type 0} (left : Option (List Answer)) (given : Answer) → Says false (Some []) (Some given) left → R
nothing_said left given said = some_or_none given (says_just false (Some []) left (Some given) said).0

pub step_asks : (t : Transition) (since events : List Event) (rest left : Option (List Answer)) → rest ≡ Some [] → IsWaiting t since → StepsOn t false since rest events left → ⊥
step_asks t since _ rest _ e waiting (begins _ k a begin) = unsettled t since k a begin waiting.settled
step_asks t since _ rest left e waiting (takes _ _ given said taken) = nothing_said left given (subst (λ z. Says false z (Some given) left) e said)
step_asks t since _ rest left e waiting (is_silent _ _ k a said ends) = says_something (Some []) left tt (subst (λ z. Says false z None left) e said)

module _ (c : Cluster) (promotions : List Promotion) where
  asks_stuck : (at : RunStanding) (rest : Option (List Answer)) → rest ≡ Some [] → IsAsking at → IsStuck c promotions false at rest
  asks_stuck _ rest e asking _ _ _ (plans k es _ placed actions plan) = asking
  asks_stuck _ rest e asking _ _ left (goes k t since events _ _ step) = step_asks t since events rest left e asking step
  asks_stuck _ rest e asking _ _ _ (completes k t since _ ended unaborted) = ended_waits t since ended asking
  asks_stuck _ rest e asking _ _ _ (aborts k t since _ ended went_wrong) = ended_waits t since ended asking
  asks_stuck _ rest e asking _ _ left (answers k es _ _ given said applies) = nothing_said left given (subst (λ z. Says false z (Some given) left) e said)

  module _ (one_plan : PlansAreOne c promotions) (es : List Event) (rest : Option (List Answer)) (told : AreAnswersTold rest) where
    pub so_far_one : (left right : List Event) (lines others : List RunLine) → IsRunSoFar c promotions false es rest lines left (Some []) → IsRunSoFar c promotions false es rest others right (Some [])
        → (lines ≡ others) × (left ≡ right)
    so_far_one left right lines others one two =
        let same = both_stuck c promotions false one_plan (due 1 es) rest told one.last two.last (Some []) (Some []) lines others one.steps two.steps
        (asks_stuck one.last (Some []) refl one.asking) (asks_stuck two.last (Some []) refl two.asking) in
        (same.0, one.leaves ∙ ap (λ z. journal_at z) same.1 ∙ sym two.leaves)

    pub so_far_or_cut : {R : Type 0} (left right : List Event) (lines others : List RunLine) (given : Answer) (behind : Option (List Answer)) → IsRunSoFar c promotions false es rest lines left (Some [])
        → IsCutRun c promotions false es rest others right given behind → R
    so_far_or_cut left right lines others given behind one two =
        let same = both_stuck c promotions false one_plan (due 1 es) rest told one.last two.last (Some []) two.unread lines others one.steps two.steps
        (asks_stuck one.last (Some []) refl one.asking) (cut_run_stuck c promotions false es right rest behind given others told two) in
        nothing_said behind given (subst (λ z. Says false z (Some given) behind) (sym same.2) two.cut.said)
