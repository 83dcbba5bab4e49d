-- The steps of a run, and what is told of each.
use Rattle.std.proofs.Common.{◌≡◌, ℕ, Bool, true, false, List, [], ◌++◌, sym, subst}
use Rattle.std.specs.Prelude.{Option, Some}
use Rattle.std.specs.List.{flat_map}
use Rattle.cluster_types.specs.declared.cluster.Cluster.{Cluster}
use Rattle.cluster_types.specs.declared.journal.Answer.{Answer}
use Rattle.cluster_types.specs.declared.journal.Event.{Event}
use Rattle.cluster_types.specs.declared.journal.Promotion.{Promotion}
use Rattle.cluster_types.specs.declared.placement.Placed.{Placed}
use Rattle.cluster_types.specs.declared.run.RunLine.{RunLine}
use Rattle.cluster_types.specs.Graphs.{GraphOf}
use Rattle.cluster_types.specs.Plans.{CarriesOut, transition_on}
use Rattle.cluster_types.specs.Runs.{due, amid, Runs, RunsOn, plans}
use Rattle.cluster_types.specs.Steps.{Transition, GoesBySteps}
use Rattle.cluster_types.specs.Texts.{event_lines}
use Rattle.cluster_types.proofs.SourceLaws.{carries-out}
use Rattle.graph_exec.specs.Executors.{ExecutorOf, Went, transition_in}
use Rattle.graph_exec.specs.WatcherLines.{plan_lines}
use Rattle.graph_exec.specs.Transitions.{WentAsSaid}
use Rattle.graph_exec.specs.WatchedTransitions.{AreLinesTold}
use Rattle.graph_exec.proofs.Said.{goes_more, taken_none}
use Rattle.run_safety.proofs.OneTransition.{goes_runs}
use Rattle.run_safety.proofs.SoFar.{runs_once}
use Rattle.graph_exec.specs.Replays.{Setting, sight}
use Rattle.graph_exec.specs.Inner.Turns.{HasComeTo, IsSaid}
use Rattle.graph_exec.proofs.Joined.{came_step}

module _ (s : Setting) (k : ℕ) (es : List Event) (placed : Placed) (g : GraphOf) (out : CarriesOut s.cluster es s.promotions placed g) where
  -- the transition that is due is planned
  pub planned_step : (whole : Bool) (rest : Option (List Answer))
      → RunsOn s.cluster s.promotions whole (due k es) rest (plan_lines s.cluster k placed) (amid k (transition_on s.cluster g es) []) rest
  planned_step whole rest =
      subst (λ (t : Transition). RunsOn s.cluster s.promotions whole (due k es) rest (plan_lines s.cluster k placed) (amid k t []) rest)
      (sym (carries-out s.cluster es s.promotions placed g out)) (plans k es rest placed g.actions out.plan)

  pub planned_said : (rest : Option (List Answer))
      → IsSaid s (due k es) (amid k (transition_on s.cluster g es) []) (plan_lines s.cluster k placed) rest rest
  planned_said rest = record {
    answers = [];
    runs = λ ys. runs_once s.cluster s.promotions false _ _ (Some ys) (Some ys) _ (planned_step false (Some ys));
    taken = taken_none rest;
  }

  pub came_planned : (Follows : List RunLine → Type 0) (rest : Option (List Answer)) (over : Bool) → Follows (plan_lines s.cluster k placed)
      → HasComeTo Follows s (due k es) (sight rest over) (sight rest over) (amid k (transition_on s.cluster g es) [])
  came_planned Follows rest over told =
      came_step s Follows (due k es) (amid k (transition_on s.cluster g es) []) (sight rest over) (sight rest over) (plan_lines s.cluster k placed)
      (planned_step s.whole rest) told (λ steady open_still. planned_said rest)

-- the steps of a transition of which nothing had happened, as steps of a run
pub part_runs : (c : Cluster) (promotions : List Promotion) (whole : Bool) (k : ℕ) (t : Transition) (since later : List Event) (rest left : Option (List Answer))
    → since ≡ [] → GoesBySteps t whole since rest later left → Runs c promotions whole (amid k t []) rest (flat_map event_lines later) (amid k t later) left
part_runs c promotions whole k t since later rest left fresh steps =
    let part = goes_runs c promotions whole k t [] later rest left (rw fresh at steps) in
    subst (λ (es : List Event). Runs c promotions whole (amid k t []) rest (flat_map event_lines es) (amid k t later) left) (sym part.joined) part.runs

module _ (s : Setting) (k : ℕ) (r now : ExecutorOf) (fresh : r.since ≡ []) where
  pub part_said : (rest left : Option (List Answer)) → WentAsSaid r now rest left
      → IsSaid s (amid k (transition_in r) []) (amid k (transition_in r) now.since) (flat_map event_lines now.since) rest left
  part_said rest left w = record {
    answers = w.answers;
    runs = λ ys. part_runs s.cluster s.promotions false k (transition_in r) r.since now.since (Some (w.answers ++ ys)) (Some ys) fresh
        (goes_more ys (transition_in r) r.since now.since (Some w.answers) (Some []) w.went.steps);
    taken = w.taken;
  }

  pub part_told : (Follows : List RunLine → Type 0) → AreLinesTold Follows r now → Follows (flat_map event_lines now.since)
  part_told Follows t =
      let happened : now.since ≡ t.events = rw fresh at t.happened in
      subst (λ (es : List Event). Follows (flat_map event_lines es)) (sym happened) t.told

  -- the transition went on
  pub came_carried : (Follows : List RunLine → Type 0) (rest left : Option (List Answer)) (over over_now : Bool) → Went s.whole r now rest left
      → AreLinesTold Follows r now → (s.steady ≡ true → over_now ≡ false → WentAsSaid r now rest left)
      → HasComeTo Follows s (amid k (transition_in r) []) (sight rest over) (sight left over_now) (amid k (transition_in r) now.since)
  came_carried Follows rest left over over_now went told said = record {
    lines = flat_map event_lines now.since;
    runs = part_runs s.cluster s.promotions s.whole k (transition_in r) r.since now.since rest left fresh went.steps;
    told = part_told Follows told;
    said = λ steady open_still. part_said rest left (said steady open_still);
  }
