-- A run is that of the answers which its own lines tell. An end that nobody reported prints the line of the answer that it stands for.
use Rattle.std.proofs.Common.{◌≡◌, Bool, true, List, [], ◌∷◌, ◌++◌, append-nil, append_assoc, refl, sym, ap, subst, ◌∙◌}
use Rattle.std.specs.Prelude.{Option, Some}
use Rattle.std.specs.List.{AllByRecursion, flat_map}
use Rattle.std.proofs.lemmas.Grind.{flat_map-append}
use Rattle.cluster_types.specs.declared.cluster.Cluster.{Cluster}
use Rattle.cluster_types.specs.declared.journal.Answer.{Answer}
use Rattle.cluster_types.specs.declared.journal.Answer.TheVariants as answer
use Rattle.cluster_types.specs.declared.journal.Event.{Event}
use Rattle.cluster_types.specs.declared.journal.Journal.{Journal}
use Rattle.cluster_types.specs.declared.journal.Promotion.{Promotion}
use Rattle.cluster_types.specs.declared.run.RunLine.{RunLine}
use Rattle.cluster_types.specs.declared.run.RunLine.TheVariants as line
use Rattle.cluster_types.specs.AnswersThatApply.{is_number_of}
use Rattle.cluster_types.specs.Plans.{transition_of}
use Rattle.cluster_types.specs.Runs.{RunStanding, due, amid, idle, RunsOn, plans, goes, completes, aborts, answers, Runs, here, one_more, IsOver, IsWholeRun}
use Rattle.cluster_types.specs.Sources.{told, used_up}
use Rattle.cluster_types.specs.Steps.{Transition, StepsOn, begins, takes, is_silent, TakesAnswer, answer_events, silent_code}
use Rattle.cluster_types.specs.Tables.{targets_of}
use Rattle.cluster_types.specs.Texts.{event_lines}
use Rattle.graph_exec.specs.WatcherLines.{plan_lines}
use Rattle.lemmas.proofs.Booleans.{number_itself}
use Rattle.run_safety.proofs.InFlight.{among_flying}
use Rattle.run_safety.proofs.Printed.{answer_line}
use Rattle.sim_core.specs.LawfulRuns.{IsLawfulRun, answer_in, answers_of_lines}
use Rattle.written_runs.proofs.Telling.{IsOfPlanning, plan_lines as of_planning}

-- lines of a plan tell no answer
no_answers : (lines : List RunLine) → AllByRecursion IsOfPlanning lines → answers_of_lines lines ≡ []
no_answers [] h = refl
no_answers (line.Taken given ∷ lines) h = absurd h.0
no_answers (_ ∷ lines) h = no_answers lines h.1

-- of the answers that lines tell, with some behind them, the step of these lines leaves those
module _ (t : Transition) (whole : Bool) (since : List Event) (more : List Answer) where
  takes_own : (given : Answer) → TakesAnswer t since given
      → StepsOn t true since (Some (answers_of_lines (flat_map event_lines (answer_events t since given)) ++ more)) (answer_events t since given) (Some more)
  takes_own given taken =
      let lines = answer_line t since given taken.applies in
      subst (λ (ls : List RunLine). StepsOn t true since (Some (answers_of_lines ls ++ more)) (answer_events t since given) (Some more)) (sym lines)
      (takes (Some (given ∷ more)) (Some more) given (told given more) taken)

  step_own : (events : List Event) (rest left : Option (List Answer)) → StepsOn t whole since rest events left
      → StepsOn t true since (Some (answers_of_lines (flat_map event_lines events) ++ more)) events (Some more)
  step_own _ _ _ (begins _ k a begin) = begins (Some more) k a begin
  step_own _ _ _ (takes _ _ given said taken) = takes_own given taken
  step_own _ _ _ (is_silent _ _ k a said ends) =
      takes_own (answer.End k (silent_code a))
      (record { waiting = ends.waiting; applies = among_flying t since k a (is_number_of k) (number_itself k) ends.action ends.in_flight })

module _ (c : Cluster) (promotions : List Promotion) (whole : Bool) where
  one_own : (at next : RunStanding) (rest left : Option (List Answer)) (lines : List RunLine) (more : List Answer) → RunsOn c promotions whole at rest lines next left
      → RunsOn c promotions true at (Some (answers_of_lines lines ++ more)) lines next (Some more)
  one_own _ _ _ _ _ more (plans k es _ placed actions plan) =
      let none : answers_of_lines (plan_lines c k placed) ≡ [] = no_answers (plan_lines c k placed) (of_planning c placed.pins (targets_of placed.table) placed.none k) in
      subst (λ (given : List Answer). RunsOn c promotions true (due k es) (Some (given ++ more)) (plan_lines c k placed) (amid k (transition_of c es actions) []) (Some more)) (sym none)
      (plans k es (Some more) placed actions plan)
  one_own _ _ _ _ _ more (goes k t since events rest left step) =
      goes k t since events (Some (answers_of_lines (flat_map event_lines events) ++ more)) (Some more) (step_own t whole since more events rest left step)
  one_own _ _ _ _ _ more (completes k t since _ ended calm) = completes k t since (Some more) ended calm
  one_own _ _ _ _ _ more (aborts k t since _ ended failed) = aborts k t since (Some more) ended failed
  one_own _ _ _ _ _ more (answers k es _ _ given said applies) = answers k es (Some (given ∷ more)) (Some more) given (told given more) applies

  runs_own : (at later : RunStanding) (rest left : Option (List Answer)) (lines : List RunLine) (more : List Answer) → Runs c promotions whole at rest lines later left
      → Runs c promotions true at (Some (answers_of_lines lines ++ more)) lines later (Some more)
  runs_own at _ _ _ _ more (here _ _) = here at (Some more)
  runs_own at later rest left _ more (one_more _ next _ _ middle _ first others step runs) =
      let joint : answers_of_lines (first ++ others) ++ more ≡ answers_of_lines first ++ (answers_of_lines others ++ more)
      = ap (λ (given : List Answer). given ++ more) (flat_map-append answer_in first others) ∙ append_assoc (answers_of_lines first) (answers_of_lines others) more in
      subst (λ (given : List Answer). Runs c promotions true at (Some given) (first ++ others) later (Some more)) (sym joint)
      (one_more at next later (Some (answers_of_lines first ++ (answers_of_lines others ++ more))) (Some (answers_of_lines others ++ more)) (Some more) first others
      (one_own at next rest middle first (answers_of_lines others ++ more) step) (runs_own next later middle left others more runs))

  over_own : (at : RunStanding) (behind : Option (List Answer)) → IsOver c promotions whole at behind → IsOver c promotions true at (Some [])
  over_own (due k es) behind over = over
  over_own (amid k t since) behind over = over
  over_own (idle k es) behind over = used_up refl

-- the lines of a whole run are lawful, whether its answers are told or not
pub whole_is_lawful : (c : Cluster) (journal : Journal) (whole : Bool) (rest : Option (List Answer)) (lines : List RunLine) (left : List Event)
    → IsWholeRun c journal.promotions whole journal.events rest lines left → IsLawfulRun c journal lines
whole_is_lawful c journal whole rest lines left run = record {
  left = left;
  whole = record {
    last = run.last;
    behind = Some [];
    steps = subst (λ (given : List Answer). Runs c journal.promotions true (due 1 journal.events) (Some given) lines run.last (Some [])) (append-nil (answers_of_lines lines))
        (runs_own c journal.promotions whole (due 1 journal.events) run.last rest run.behind lines [] run.steps);
    over = over_own c journal.promotions whole run.last run.behind run.over;
    leaves = run.leaves;
  };
}
