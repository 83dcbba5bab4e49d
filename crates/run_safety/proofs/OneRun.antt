-- Of the steps of a run from one place there is one, where the answers to come are told and a journal has one plan. So of two runs from one place the one goes
-- on from the other.
use Rattle.std.proofs.Common.{◌≡◌, ℕ, ◌+◌, Bool, true, false, List, [], ◌∷◌, ◌++◌, append_assoc, refl, ap, ◌∙◌, sym, subst}
use Rattle.std.specs.Prelude.{Option, Some, None}
use Rattle.std.specs.List.{flat_map}
use Rattle.cluster_types.specs.declared.cluster.Cluster.{Cluster}
use Rattle.cluster_types.specs.declared.journal.Action.{Action}
use Rattle.cluster_types.specs.declared.journal.Answer.{Answer}
use Rattle.cluster_types.specs.declared.journal.Event.{Event}
use Rattle.cluster_types.specs.declared.journal.Promotion.{Promotion}
use Rattle.cluster_types.specs.declared.placement.Placed.{Placed}
use Rattle.cluster_types.specs.declared.run.RunLine.{RunLine}
use Rattle.cluster_types.specs.declared.run.RunLine.TheVariants as line
use Rattle.cluster_types.specs.Plans.{IsPlan, transition_of}
use Rattle.cluster_types.specs.Runs.{RunStanding, due, amid, idle, RunsOn, plans, goes, completes, aborts, answers, Runs, here, one_more}
use Rattle.cluster_types.specs.Sources.{Says}
use Rattle.cluster_types.specs.Steps.{Transition, StepsOn, begins, takes, is_silent, HasEnded, answer_events, has_aborted, journal, idling}
use Rattle.cluster_types.specs.Tables.{targets_of}
use Rattle.cluster_types.specs.Texts.{event_lines, target_lines}
use Rattle.run_safety.specs.TwoRuns.{AreAnswersTold, AreOnOneWay, this_first, other_first}
use Rattle.run_safety.specs.OnePlan.{PlansAreOne}
use Rattle.run_safety.proofs.OneStep.{step_one, ended_goes}
use Rattle.run_safety.proofs.Said.{says_one, stays_told}

both_aborted : {R : Type 0} (b : Bool) → b ≡ true → b ≡ false → R
both_aborted true h g = absurd (let f : ⊥ = cc in f)
both_aborted false h g = absurd (let f : ⊥ = cc in f)

pub step_told : (t : Transition) (whole : Bool) (since events : List Event) (rest left : Option (List Answer)) → StepsOn t whole since rest events left → AreAnswersTold rest → AreAnswersTold left
step_told t whole since _ rest _ (begins _ k a begin) h = h
step_told t whole since _ rest left (takes _ _ given said taken) h = stays_told whole rest left (Some given) said h
step_told t whole since _ rest left (is_silent _ _ k a said ends) h = stays_told whole rest left None said h

module _ (c : Cluster) (promotions : List Promotion) (whole : Bool) where
  pub run_told : (at next : RunStanding) (rest left : Option (List Answer)) (lines : List RunLine) → RunsOn c promotions whole at rest lines next left → AreAnswersTold rest → AreAnswersTold left
  run_told _ _ rest _ _ (plans k es _ placed actions plan) h = h
  run_told _ _ rest left _ (goes k t since events _ _ step) h = step_told t whole since events rest left step h
  run_told _ _ rest _ _ (completes k t since _ ended unaborted) h = h
  run_told _ _ rest _ _ (aborts k t since _ ended aborted) h = h
  run_told _ _ rest left _ (answers k es _ _ given said applies) h = stays_told whole rest left (Some given) said h

  pub runs_told : (at later : RunStanding) (rest left : Option (List Answer)) (lines : List RunLine) → Runs c promotions whole at rest lines later left → AreAnswersTold rest → AreAnswersTold left
  runs_told at _ rest _ _ (here _ _) h = h
  runs_told at after rest left _ (one_more _ next _ _ middle _ lines others step more) h =
      runs_told next after middle left others more (run_told at next rest middle lines step h)

  module _ (one_plan : PlansAreOne c promotions) (rest : Option (List Answer)) (told : AreAnswersTold rest) where
    plan_one : (k : ℕ) (es : List Event) (p : Placed) (a : List Action) → IsPlan c es promotions p a
        → (others : List RunLine) (after : RunStanding) (other : Option (List Answer)) → RunsOn c promotions whole (due k es) rest others after other
        → (line.Transition k ∷ target_lines c p.pins (targets_of p.table) p.none ≡ others) × (amid k (transition_of c es a) [] ≡ after) × (rest ≡ other)
    plan_one k es p a one _ _ _ (plans _ _ _ q b two) = (
      ap (λ z. line.Transition k ∷ target_lines c z (targets_of p.table) p.none) (one_plan.pins es p q a b one two)
          ∙ ap (λ z. line.Transition k ∷ target_lines c q.pins (targets_of z) p.none) (one_plan.tables es p q a b one two)
          ∙ ap (λ z. line.Transition k ∷ target_lines c q.pins (targets_of q.table) z) (one_plan.reasons es p q a b one two),
      ap (λ z. amid k (transition_of c es z) []) (one_plan.actions es p q a b one two),
      refl,
    )

    go_one : (k : ℕ) (t : Transition) (since events : List Event) (left : Option (List Answer)) → StepsOn t whole since rest events left
        → (others : List RunLine) (after : RunStanding) (other : Option (List Answer)) → RunsOn c promotions whole (amid k t since) rest others after other
        → (flat_map event_lines events ≡ others) × (amid k t (since ++ events) ≡ after) × (left ≡ other)
    go_one k t since events left one _ _ other (goes _ _ _ also _ _ two) =
        let same = step_one t since whole rest told events also left other one two in
        (ap (λ z. flat_map event_lines z) same.0, ap (λ z. amid k t (since ++ z)) same.0, same.1)
    go_one k t since events left one _ _ _ (completes _ _ _ _ ended unaborted) = ended_goes t since whole events rest left ended one
    go_one k t since events left one _ _ _ (aborts _ _ _ _ ended aborted) = ended_goes t since whole events rest left ended one

    complete_one : (k : ℕ) (t : Transition) (since : List Event) → HasEnded t since → has_aborted t since ≡ false
        → (others : List RunLine) (after : RunStanding) (other : Option (List Answer)) → RunsOn c promotions whole (amid k t since) rest others after other
        → (line.Complete k ∷ [] ≡ others) × (idle k (journal t since) ≡ after) × (rest ≡ other)
    complete_one k t since over h _ _ other (goes _ _ _ also _ _ two) = ended_goes t since whole also rest other over two
    complete_one k t since over h _ _ _ (completes _ _ _ _ ended unaborted) = (refl, refl, refl)
    complete_one k t since over h _ _ _ (aborts _ _ _ _ ended aborted) = both_aborted (has_aborted t since) aborted h

    abort_one : (k : ℕ) (t : Transition) (since : List Event) → HasEnded t since → has_aborted t since ≡ true
        → (others : List RunLine) (after : RunStanding) (other : Option (List Answer)) → RunsOn c promotions whole (amid k t since) rest others after other
        → (line.Aborted k ∷ [] ≡ others) × (due (k + 1) (journal t since) ≡ after) × (rest ≡ other)
    abort_one k t since over h _ _ other (goes _ _ _ also _ _ two) = ended_goes t since whole also rest other over two
    abort_one k t since over h _ _ _ (completes _ _ _ _ ended unaborted) = both_aborted (has_aborted t since) h unaborted
    abort_one k t since over h _ _ _ (aborts _ _ _ _ ended aborted) = (refl, refl, refl)

    answer_one : (k : ℕ) (es : List Event) (given : Answer) (left : Option (List Answer)) → Says whole rest (Some given) left
        → (others : List RunLine) (after : RunStanding) (other : Option (List Answer)) → RunsOn c promotions whole (idle k es) rest others after other
        → (line.Taken given ∷ [] ≡ others) × (due (k + 1) (es ++ answer_events (idling c es) [] given) ≡ after) × (left ≡ other)
    answer_one k es given left one _ _ other (answers _ _ _ _ also two applies) =
        let same = says_one whole rest left other (Some given) (Some also) told one two in
        let e : given ≡ also = cc in
        (ap (λ z. line.Taken z ∷ []) e, ap (λ z. due (k + 1) (es ++ answer_events (idling c es) [] z)) e, same.1)

    pub run_one : (at next after : RunStanding) (lines others : List RunLine) (left other : Option (List Answer)) → RunsOn c promotions whole at rest lines next left
        → RunsOn c promotions whole at rest others after other → (lines ≡ others) × (next ≡ after) × (left ≡ other)
    run_one _ _ after _ others _ other (plans k es _ placed actions plan) two = plan_one k es placed actions plan others after other two
    run_one _ _ after _ others left other (goes k t since events _ _ step) two = go_one k t since events left step others after other two
    run_one _ _ after _ others _ other (completes k t since _ ended unaborted) two = complete_one k t since ended unaborted others after other two
    run_one _ _ after _ others _ other (aborts k t since _ ended aborted) two = abort_one k t since ended aborted others after other two
    run_one _ _ after _ others left other (answers k es _ _ given said applies) two = answer_one k es given left said others after other two

  -- what goes on behind equal lines
  further : (first second more others : List RunLine) (p q : RunStanding) (left right : Option (List Answer)) → first ≡ second
      → AreOnOneWay c promotions whole more p left others q right → AreOnOneWay c promotions whole (first ++ more) p left (second ++ others) q right
  further first second more others p q left right e (this_first g) =
      this_first (record { more = g.more; runs = g.runs; joined = ap (λ z. second ++ z) g.joined ∙ ap (λ z. z ++ (more ++ g.more)) (sym e) ∙ sym (append_assoc first more g.more) })
  further first second more others p q left right e (other_first g) =
      other_first (record { more = g.more; runs = g.runs; joined = ap (λ z. first ++ z) g.joined ∙ ap (λ z. z ++ (others ++ g.more)) e ∙ sym (append_assoc second others g.more) })

  moved : (at after later : RunStanding) (rest other left : Option (List Answer)) (lines : List RunLine) → at ≡ after → rest ≡ other
      → Runs c promotions whole after other lines later left → Runs c promotions whole at rest lines later left
  moved at after later rest other left lines e f runs =
      subst (λ z. Runs c promotions whole z rest lines later left) (sym e) (subst (λ z. Runs c promotions whole after z lines later left) (sym f) runs)

  pub one_way : PlansAreOne c promotions → (at p q : RunStanding) (rest left right : Option (List Answer)) (lines others : List RunLine) → AreAnswersTold rest
      → Runs c promotions whole at rest lines p left → Runs c promotions whole at rest others q right → AreOnOneWay c promotions whole lines p left others q right
  one_way one_plan at _ q rest _ right _ others told (here _ _) two = this_first (record { more = others; runs = two; joined = refl })
  one_way one_plan at p _ rest left _ _ _ told (one_more _ next _ _ middle _ lines more step later) (here _ _) =
      other_first (record { more = lines ++ more; runs = one_more at next p rest middle left lines more step later; joined = refl })
  one_way one_plan at p q rest left right _ _ told (one_more _ next _ _ middle _ first more step later) (one_more _ after _ _ other _ second others also behind) =
      let same = run_one one_plan rest told at next after first second middle other step also in
      further first second more others p q left right same.0
      (one_way one_plan next p q middle left right more others (run_told at next rest middle first step told) later
      (moved next after q middle other right others same.1 same.2 behind))
