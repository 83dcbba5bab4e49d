-- There is a run: step by step, as long as anything can be done, up to its end or to an answer that doesn't apply.
use Rattle.std.proofs.Common.{arith, ◌≡◌, ◌<◌, ◌+◌, ℕ, zero, suc, Bool, true, false, Option, Some, List, [], ◌∷◌, ◌++◌, refl, ◌∙◌, subst, ◌⊎◌, inl, inr}
use Rattle.std.specs.List.{flat_map, list_any}
use Rattle.cluster_types.specs.declared.cluster.Cluster.{Cluster}
use Rattle.cluster_types.specs.declared.journal.Action.{Action}
use Rattle.cluster_types.specs.declared.journal.Answer.{Answer}
use Rattle.cluster_types.specs.declared.journal.Event.{Event}
use Rattle.cluster_types.specs.declared.journal.Event.TheVariants.{Begin}
use Rattle.cluster_types.specs.declared.journal.Outcome.TheVariants.{Code}
use Rattle.cluster_types.specs.declared.journal.Promotion.{Promotion}
use Rattle.cluster_types.specs.declared.placement.Placed.{Placed}
use Rattle.cluster_types.specs.declared.run.RunLine.{RunLine}
use Rattle.cluster_types.specs.declared.run.RunLine.TheVariants as line
use Rattle.cluster_types.specs.AnswersThatApply.{applies_after}
use Rattle.cluster_types.specs.Plans.{IsPlan, transition_of}
use Rattle.cluster_types.specs.Runs.{RunStanding, due, amid, idle, RunsOn, plans, goes, completes, aborts, answers, Runs, here, one_more, IsAsking, IsCutAt, IsOver, journal_at}
use Rattle.cluster_types.specs.Sources.{told, used_up}
use Rattle.cluster_types.specs.Steps.{Transition, HasEnded, IsWaiting, StepsOn, begins, takes, is_silent, answer_events, ended, has_aborted, in_flight_by_number, journal, count_from_outside, idling, silent_code}
use Rattle.cluster_types.specs.Steps as steps
use Rattle.cluster_types.specs.Tables.{targets_of}
use Rattle.cluster_types.specs.Texts.{event_lines, target_lines}
use Rattle.run_safety.proofs.SafeRuns.{silent}
use Rattle.run_safety.proofs.Shapes.{answer_adds, step_adds}
use Rattle.run_safety.proofs.Silent.{not_over, silent_aborts_nothing}
use Rattle.written_runs.specs.SomeEnds.{HasCutRun, HasRunSoFar, HasWholeRun}
use Rattle.written_runs.proofs.NextSteps.{HaveNumbers, Next, one_begins, one_waits, has_ended_now, begin_leaves, begin_numbers, next_of, none_may_begin, quiet_numbers, same_any, silent_leaves, silent_next, to_do}

-- What a run can do next.

module _ (c : Cluster) (promotions : List Promotion) (whole : Bool) (placed_for : List Event → Placed) (actions_for : List Event → List Action)
    (is_planned : (es : List Event) → IsPlan c es promotions (placed_for es) (actions_for es)) where
  -- the run is over, asks for one answer more, or is cut
  pub data IsEnd (at : RunStanding) (rest : Option (List Answer)) : Type 0 where
    is_over : IsOver c promotions whole at rest → IsEnd at rest
    asks_more : whole ≡ false → IsAsking at → rest ≡ Some [] → IsEnd at rest
    is_cut : (given : Answer) (left : Option (List Answer)) → IsCutAt c promotions whole at rest given left → IsEnd at rest

  -- from a place on the run has an end
  pub record EndsFrom (at : RunStanding) (rest : Option (List Answer)) : Type 0 where
    pub lines : List RunLine
    pub last : RunStanding
    pub behind : Option (List Answer)
    pub runs : Runs c promotions whole at rest lines last behind
    pub end : IsEnd last behind

  ends_here : (at : RunStanding) (rest : Option (List Answer)) → IsEnd at rest → EndsFrom at rest
  ends_here at rest end = record { lines = []; last = at; behind = rest; runs = here at rest; end = end }

  ends_later : (at next : RunStanding) (rest left : Option (List Answer)) (lines : List RunLine) → RunsOn c promotions whole at rest lines next left → EndsFrom next left → EndsFrom at rest
  ends_later at next rest left lines step ends = record {
    lines = lines ++ ends.lines;
    last = ends.last;
    behind = ends.behind;
    runs = one_more at next ends.last rest left ends.behind lines ends.lines step ends.runs;
    end = ends.end;
  }

  -- where the run may stand
  abbrev Stands : RunStanding → Type 0
  Stands (due k es) = Unit {0}
  Stands (amid k t since) = HaveNumbers t since
  Stands (idle k es) = Unit {0}

  module _ (to_come : List Answer) (next : (given : Answer) (more : List Answer) → to_come ≡ given ∷ more → (at : RunStanding) → Stands at → EndsFrom at (Some more)) where
    -- an answer is asked for, and none is left
    asked_in_vain : (at : RunStanding) → IsAsking at → (whole ≡ true → EndsFrom at (Some [])) → EndsFrom at (Some [])
    asked_in_vain at asking over = by whole refl
      where
        by : (b : Bool) → whole ≡ b → EndsFrom at (Some [])
        by true e = over e
        by false e = ends_here at (Some []) (asks_more e asking refl)

    idle_ends : (k : ℕ) (es : List Event) → EndsFrom (idle k es) (Some to_come)
    idle_ends k es = by to_come refl
      where
        answered : (given : Answer) (more : List Answer) (b : Bool) → to_come ≡ given ∷ more
            → applies_after c (journal (idling c es) []) (in_flight_by_number (idling c es) []) (count_from_outside (idling c es) []) given ≡ b → EndsFrom (idle k es) (Some (given ∷ more))
        answered given more true same e =
            ends_later (idle k es) (due (k + 1) (es ++ answer_events (idling c es) [] given)) (Some (given ∷ more)) (Some more) (line.Taken given ∷ [])
            (answers k es (Some (given ∷ more)) (Some more) given (told given more) e) (next given more same (due (k + 1) (es ++ answer_events (idling c es) [] given)) tt)
        answered given more false same e =
            ends_here (idle k es) (Some (given ∷ more))
            (is_cut given (Some more) (record { asking = tt; said = told given more; refused = λ h. let f : ⊥ = cc in f }))

        by : (left : List Answer) → to_come ≡ left → EndsFrom (idle k es) (Some left)
        by [] same = asked_in_vain (idle k es) tt (λ e. ends_here (idle k es) (Some []) (is_over (used_up e)))
        by (given ∷ more) same =
            answered given more (applies_after c (journal (idling c es) []) (in_flight_by_number (idling c es) []) (count_from_outside (idling c es) []) given) same refl

    -- amid a transition that is aborted or isn't, up to where that changes, or it ends
    module _ (k : ℕ) (t : Transition) (aborted : Bool)
        (at_end : (since : List Event) → HasEnded t since → has_aborted t since ≡ aborted → EndsFrom (amid k t since) (Some to_come)) where
      calm_still : (since ys : List Event) → has_aborted t since ≡ aborted → list_any (steps.aborts t.cluster) ys ≡ false → has_aborted t (since ++ ys) ≡ aborted
      calm_still since ys is calm = same_any (steps.aborts t.cluster) since ys calm ∙ is

      abbrev EndsWithin : ℕ → Type 0
      EndsWithin fuel = (later : List Event) → to_do t later < fuel → HaveNumbers t later → has_aborted t later ≡ aborted → EndsFrom (amid k t later) (Some to_come)

      amid_ends : (fuel : ℕ) (since : List Event) → to_do t since < fuel → HaveNumbers t since → has_aborted t since ≡ aborted → EndsFrom (amid k t since) (Some to_come)
      amid_ends zero since less own is = absurd (let f : ⊥ = omega (arith, less) in f)
      amid_ends (suc fuel) since less own is = by (next_of t since) (amid_ends fuel)
        where
          waits_for : IsWaiting t since → EndsWithin fuel → (left : List Answer) → to_come ≡ left → EndsFrom (amid k t since) (Some left)
          waits_for waits deeper [] same =
              asked_in_vain (amid k t since) waits (λ e.
              let first = silent_next t since own waits in
              let j = first.0 in
              let a = first.1 in
              let events = ended t since j (Code (silent_code a)) in
              let step : StepsOn t whole since (Some []) events (Some []) = is_silent (Some []) (Some []) j a (used_up e) first.2 in
              let fewer = silent_leaves t since j a first.2 in
              ends_later (amid k t since) (amid k t (since ++ events)) (Some []) (Some []) (flat_map event_lines events) (goes k t since events (Some []) (Some []) step)
              (subst (λ z. EndsFrom (amid k t (since ++ events)) (Some z)) same
              (deeper (since ++ events) (omega (arith, fewer, less)) (quiet_numbers t since events (silent t since events (none_may_begin t since waits)
              (step_adds t since whole events (Some []) (Some []) step)) own)
              (calm_still since events is (silent_aborts_nothing t since j a first.2.action)))))
          waits_for waits deeper (given ∷ more) same = on (applies_after t.cluster (journal t since) (in_flight_by_number t since) (count_from_outside t since) given) refl
            where
              on : (b : Bool) → applies_after t.cluster (journal t since) (in_flight_by_number t since) (count_from_outside t since) given ≡ b → EndsFrom (amid k t since) (Some (given ∷ more))
              on true e =
                  let events = answer_events t since given in
                  ends_later (amid k t since) (amid k t (since ++ events)) (Some (given ∷ more)) (Some more) (flat_map event_lines events)
                  (goes k t since events (Some (given ∷ more)) (Some more) (takes (Some (given ∷ more)) (Some more) given (told given more) (record { waiting = waits; applies = e })))
                  (next given more same (amid k t (since ++ events)) (quiet_numbers t since events (silent t since events (none_may_begin t since waits) (answer_adds t since given e)) own))
              on false e =
                  ends_here (amid k t since) (Some (given ∷ more))
                  (is_cut given (Some more) (record { asking = waits; said = told given more; refused = λ h. let f : ⊥ = cc in f }))

          by : Next t since → EndsWithin fuel → EndsFrom (amid k t since) (Some to_come)
          by (one_begins j a begin) deeper =
              let fewer = begin_leaves t since j a begin in
              ends_later (amid k t since) (amid k t (since ++ Begin j a ∷ [])) (Some to_come) (Some to_come) (line.Begin j a ∷ [])
              (goes k t since (Begin j a ∷ []) (Some to_come) (Some to_come) (begins (Some to_come) j a begin))
              (deeper (since ++ Begin j a ∷ []) (omega (arith, fewer, less)) (begin_numbers t since j a begin own) (calm_still since (Begin j a ∷ []) is refl))
          by (one_waits waits) deeper = waits_for waits deeper to_come refl
          by (has_ended_now over) deeper = at_end since over is

    -- a transition that nothing has aborted
    clean_ends : (k : ℕ) (t : Transition) (since : List Event) → HaveNumbers t since → has_aborted t since ≡ false → EndsFrom (amid k t since) (Some to_come)
    clean_ends k t since own clean =
        amid_ends k t false (λ later over is.
        ends_later (amid k t later) (idle k (journal t later)) (Some to_come) (Some to_come) (line.Complete k ∷ []) (completes k t later (Some to_come) over is) (idle_ends k (journal t later)))
        (1 + to_do t since) since (omega arith) own clean

    due_ends : (k : ℕ) (es : List Event) → EndsFrom (due k es) (Some to_come)
    due_ends k es =
        let placed = placed_for es in
        ends_later (due k es) (amid k (transition_of c es (actions_for es)) []) (Some to_come) (Some to_come)
        (line.Transition k ∷ target_lines c placed.pins (targets_of placed.table) placed.none) (plans k es (Some to_come) placed (actions_for es) (is_planned es))
        (clean_ends k (transition_of c es (actions_for es)) [] (λ j h. absurd (let f : ⊥ = cc in f)) refl)

    -- one that is aborted goes on to the next
    aborted_ends : (k : ℕ) (t : Transition) (since : List Event) → HaveNumbers t since → has_aborted t since ≡ true → EndsFrom (amid k t since) (Some to_come)
    aborted_ends k t since own aborted =
        amid_ends k t true (λ later over is.
        ends_later (amid k t later) (due (k + 1) (journal t later)) (Some to_come) (Some to_come) (line.Aborted k ∷ []) (aborts k t later (Some to_come) over is) (due_ends (k + 1) (journal t later)))
        (1 + to_do t since) since (omega arith) own aborted

    all_ends : (at : RunStanding) → Stands at → EndsFrom at (Some to_come)
    all_ends (due k es) stands = due_ends k es
    all_ends (idle k es) stands = idle_ends k es
    all_ends (amid k t since) own = by (has_aborted t since) refl
      where
        by : (b : Bool) → has_aborted t since ≡ b → EndsFrom (amid k t since) (Some to_come)
        by true e = aborted_ends k t since own e
        by false e = clean_ends k t since own e

  -- over any answers
  pub some_end : (to_come : List Answer) (at : RunStanding) → Stands at → EndsFrom at (Some to_come)
  some_end [] = all_ends [] (λ given more e at stands. absurd (let f : ⊥ = cc in f))
  some_end (first ∷ others) =
      all_ends (first ∷ others) (λ given more e at stands. subst (λ z. EndsFrom at (Some z)) (let same : others ≡ more = cc in same) (some_end others at stands))

module _ (c : Cluster) (promotions : List Promotion) (placed_for : List Event → Placed) (actions_for : List Event → List Action)
    (is_planned : (es : List Event) → IsPlan c es promotions (placed_for es) (actions_for es)) (es : List Event) (to_come : List Answer) where
  cut_run : (whole : Bool) (lines : List RunLine) (last : RunStanding) (behind left : Option (List Answer)) (given : Answer)
      → Runs c promotions whole (due 1 es) (Some to_come) lines last behind → IsCutAt c promotions whole last behind given left → HasCutRun c promotions es to_come whole
  cut_run whole lines last behind left given runs cut = record {
    lines = lines;
    journal_now = journal_at last;
    given = given;
    behind = left;
    run = record { last = last; unread = behind; steps = runs; cut = cut; leaves = refl };
  }

  pub whole_or_cut : HasWholeRun c promotions es to_come ⊎ HasCutRun c promotions es to_come true
  whole_or_cut = let ends = some_end c promotions true placed_for actions_for is_planned to_come (due 1 es) tt in by ends.lines ends.last ends.behind ends.runs ends.end
    where
      by : (lines : List RunLine) (last : RunStanding) (behind : Option (List Answer)) → Runs c promotions true (due 1 es) (Some to_come) lines last behind
          → IsEnd c promotions true placed_for actions_for is_planned last behind → HasWholeRun c promotions es to_come ⊎ HasCutRun c promotions es to_come true
      by lines last behind runs (is_over over) =
          inl (record { lines = lines; journal_now = journal_at last; run = record { last = last; behind = behind; steps = runs; over = over; leaves = refl } })
      by lines last behind runs (asks_more e asking none) = absurd (let f : ⊥ = cc in f)
      by lines last behind runs (is_cut given left cut) = inr (cut_run true lines last behind left given runs cut)

  pub more_or_cut : HasRunSoFar c promotions es to_come ⊎ HasCutRun c promotions es to_come false
  more_or_cut = let ends = some_end c promotions false placed_for actions_for is_planned to_come (due 1 es) tt in by ends.lines ends.last ends.behind ends.runs ends.end
    where
      by : (lines : List RunLine) (last : RunStanding) (behind : Option (List Answer)) → Runs c promotions false (due 1 es) (Some to_come) lines last behind
          → IsEnd c promotions false placed_for actions_for is_planned last behind → HasRunSoFar c promotions es to_come ⊎ HasCutRun c promotions es to_come false
      by lines last behind runs (is_over over) =
          not_over c promotions es (journal_at last) (Some to_come) lines tt (record { last = last; behind = behind; steps = runs; over = over; leaves = refl })
      by lines last behind runs (asks_more e asking none) =
          let steps : Runs c promotions false (due 1 es) (Some to_come) lines last (Some []) = subst (λ z. Runs c promotions false (due 1 es) (Some to_come) lines last z) none runs in
          inl (record { lines = lines; journal_now = journal_at last; run = record { last = last; steps = steps; asking = asking; leaves = refl } })
      by lines last behind runs (is_cut given left cut) = inr (cut_run false lines last behind left given runs cut)
