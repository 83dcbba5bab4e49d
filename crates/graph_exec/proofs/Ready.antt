-- A transition that is planned, and what comes of it in its run.
use Rattle.std.proofs.Common.{arith, ◌≡◌, ℕ, Bool, true, List, [], ◌++◌, refl, sym, ap, ◌∙◌, subst}
use Rattle.std.specs.Prelude.{Option, Some, Result}
use Rattle.cluster_types.specs.declared.cluster.Cluster.{Cluster}
use Rattle.cluster_types.specs.declared.journal.Answer.{Answer}
use Rattle.cluster_types.specs.declared.journal.Event.{Event}
use Rattle.cluster_types.specs.declared.journal.Journal.{Journal}
use Rattle.cluster_types.specs.declared.journal.Promotion.{Promotion}
use Rattle.cluster_types.specs.declared.run.RunLine.{RunLine}
use Rattle.cluster_types.specs.Graphs.{GraphOf}
use Rattle.cluster_types.specs.Plans.{CarriesOut}
use Rattle.cluster_types.specs.Runs.{RunStanding, due, amid, here}
use Rattle.cluster_types.specs.Safety.{IsAtRest}
use Rattle.cluster_types.specs.Steps.{Transition}
use Rattle.cluster_types.specs.Valid.{IsValid}
use Rattle.graph_exec.specs.KnownJournals.{KnownJournalOf}
use Rattle.graph_exec.specs.Promises.{IsGraphPlanned}
use Rattle.graph_exec.specs.Executors.{ExecutorOf, Went, transition_in, fresh_on}
use Rattle.graph_exec.specs.Inner.ExecutorFields.{running_journal}
use Rattle.graph_exec.specs.WatcherLines.{StopsAmong, plan_lines}
use Rattle.graph_exec.specs.Transitions.{Accords}
use Rattle.graph_exec.specs.declared.run.planning.Planned.{Planned}
use Rattle.graph_exec.specs.declared.run.stop.ReplayStop.{ReplayStop}
use Rattle.graph_exec.specs.Replays.{Setting, AnswersView, setting, sight}
use Rattle.graph_exec.specs.Inner.Turns.{HasComeTo, CameTo, RunEndsAs, EndsStopped, HasPlannedGraph, IsReady, left_of}
use Rattle.graph_exec.proofs.Joined.{came_on, ends_on}
use Rattle.graph_exec.proofs.Named.{reasons_named}
use Rattle.graph_exec.proofs.Rests.{accords_first, accords_last, stays_there}
use Rattle.graph_exec.proofs.Steps.{came_planned, planned_step}

pub is_ready : (j : KnownJournalOf) (p : Planned) (g : GraphOf) → IsValid j.cluster → IsAtRest j.events → p.executor ≡ fresh_on j g
    → CarriesOut j.cluster j.events j.promotions p.placed g → IsReady j p
is_ready j p g valid rests e out = record {
  fresh = e ∙ ap (fresh_on j) (sym (ap (λ (r : ExecutorOf). r.graph) e));
  plan = subst (λ (r : ExecutorOf). IsGraphPlanned r p.placed) (sym e) (record { valid = valid; at_rest = rests; plan = out });
  names = reasons_named j.cluster valid j.events j.promotions p.placed out.plan.goals;
}

module _ (j : KnownJournalOf) (p : Planned) (ready : IsReady j p) where
  pub starts_fresh : p.executor.since ≡ []
  starts_fresh = ap (λ (r : ExecutorOf). r.since) ready.fresh

  pub same_cluster : p.executor.cluster ≡ j.cluster
  same_cluster = ap (λ (r : ExecutorOf). r.cluster) ready.fresh

  pub same_events : p.executor.planned_at ≡ j.events
  same_events = ap (λ (r : ExecutorOf). r.planned_at) ready.fresh

  pub same_promotions : p.executor.promotions ≡ j.promotions
  same_promotions = ap (λ (r : ExecutorOf). r.promotions) ready.fresh

  pub has_plan : HasPlannedGraph p.executor
  has_plan = record { placed = p.placed; planned = ready.plan }

  pub carries : CarriesOut j.cluster j.events j.promotions p.placed p.executor.graph
  carries = (subst (λ (r : ExecutorOf). IsGraphPlanned r p.placed) ready.fresh ready.plan).plan

  -- a source that agreed with the journal agrees with the one that the transition leaves
  module _ (whole : Bool) (now : ExecutorOf) (rest left : Option (List Answer)) (went : Went whole p.executor now rest left) where
    pub agrees_behind : (before after : Cluster → List Event → ℕ → Type 0) → ((c : Cluster) (es : List Event) (taken : ℕ) → after c es taken → after c es 0)
        → (Accords before p.executor → Accords after now) → before j.cluster j.events 0 → (es : List Event) → es ≡ now.planned_at ++ now.since → after j.cluster es 0
    agrees_behind before after anew carried h es is =
        subst (λ (c : Cluster). after c es 0) same_cluster
        (accords_last after anew p.executor now (stays_there whole p.executor now rest left went)
        (carried (accords_first before p.executor has_plan.planned.at_rest.1 starts_fresh
        (subst (λ (c : Cluster). before c p.executor.planned_at 0) (sym same_cluster) (subst (λ (x : List Event). before j.cluster x 0) (sym same_events) h)))) es is)

    pub later_cluster : (later : KnownJournalOf) → later ≡ running_journal now → later.cluster ≡ j.cluster
    later_cluster later known = ap (λ (x : KnownJournalOf). x.cluster) known ∙ stays_there whole p.executor now rest left went ∙ same_cluster

  same_going : (t : Transition) → t ≡ transition_in p.executor → t ≡ transition_in (fresh_on j p.executor.graph)
  same_going t e = e ∙ ap transition_in ready.fresh

  module _ (whole steady : Bool) (k : ℕ) (rest : Option (List Answer)) (over : Bool) (Follows : List RunLine → Type 0) where
    abbrev here_set : Setting
    here_set = setting j.cluster j.promotions whole steady

    -- the watcher is told of the plan
    pub came_begun : Follows (plan_lines j.cluster k p.placed)
        → HasComeTo Follows here_set (due k j.events) (sight rest over) (sight rest over) (amid k (transition_in p.executor) [])
    came_begun told =
        subst (λ (t : Transition). HasComeTo Follows here_set (due k j.events) (sight rest over) (sight rest over) (amid k t [])) (sym (same_going _ refl))
        (came_planned here_set k j.events p.placed p.executor.graph carries Follows rest over told)

    -- and stops
    pub stops_begun : (Stopped : List RunLine → Option RunLine → Type 0) → StopsAmong (λ lines at. Stopped lines (Some at)) (plan_lines j.cluster k p.placed) → (journal : Journal)
        → journal ≡ left_of p.executor
        → EndsStopped Follows here_set (due k j.events) (sight rest over) (sight rest over) k Stopped journal
    stops_begun Stopped told journal is = record {
      before = due k j.events;
      next = amid k (transition_in (fresh_on j p.executor.graph)) [];
      middle = rest;
      lines = [];
      call = plan_lines j.cluster k p.placed;
      runs = here (due k j.events) rest;
      step = planned_step here_set k j.events p.placed p.executor.graph carries whole rest;
      told = record { before = told.before; at = told.at; behind = told.behind; parts = told.parts; stopped = told.stopped };
      leaves = is ∙ ap left_of ready.fresh;
      few = omega arith;
    }

-- a part of a run, and then the next, where the journal is kept with what it tells
module _ (First Then All : List RunLine → Type 0) (join : (lines more : List RunLine) → First lines → Then more → All (lines ++ more))
    (c : Cluster) (promotions : List Promotion) (whole steady : Bool) (from : RunStanding) (old now : AnswersView) where
  module _ (at : RunStanding) (one : HasComeTo First (setting c promotions whole steady) from old now at) (d : Cluster) (scores : List Promotion)
      (same : d ≡ c) (like : scores ≡ promotions) (new : AnswersView) where
    same_set : setting d scores whole steady ≡ setting c promotions whole steady
    same_set = ap (λ (x : Cluster). setting x scores whole steady) same ∙ ap (λ (x : List Promotion). setting c x whole steady) like

    pub ends_behind : (StopThen StopAll : List RunLine → Option RunLine → Type 0)
        → ((lines more : List RunLine) (at : Option RunLine) → First lines → StopThen more at → StopAll (lines ++ more) at)
        → (number : ℕ) (end : Result Journal (ReplayStop Journal)) → (steady ≡ true → old.over ≡ true → now.over ≡ true)
        → RunEndsAs Then (setting d scores whole steady) at now new number StopThen end → RunEndsAs All (setting c promotions whole steady) from old new number StopAll end
    ends_behind StopThen StopAll stop_behind number end stays w =
        ends_on (setting c promotions whole steady) First Then All join from at old now new one StopThen StopAll stop_behind number end stays
        (subst (λ (s : Setting). RunEndsAs Then s at now new number StopThen end) same_set w)

    pub comes_behind : (then_at : List Event → RunStanding) (j : KnownJournalOf) → (steady ≡ true → now.over ≡ true → new.over ≡ true)
        → CameTo Then (setting d scores whole steady) at now new then_at j → CameTo All (setting c promotions whole steady) from old new then_at j
    comes_behind then_at j stays w =
        let there = subst (λ (s : Setting). CameTo Then s at now new then_at j) same_set w in
        record {
          cluster_stays = there.cluster_stays;
          promotions_stay = there.promotions_stay;
          came = came_on (setting c promotions whole steady) First Then All join from at old now new one (then_at j.events) stays there.came;
        }
