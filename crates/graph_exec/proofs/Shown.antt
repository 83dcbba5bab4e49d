-- What a watcher has been shown, step by step.
use Rattle.std.proofs.Common.{◌≡◌, ◌++◌, ◌∷◌, [], ℕ, Bool, true, Option, Some, None, List, append-nil, append_assoc, refl, sym, ap, subst, ◌∙◌}
use Rattle.std.specs.Prelude.{Result, Ok, Err}
use Rattle.std.specs.List.{flat_map}
use Rattle.cluster_types.specs.declared.cluster.Cluster.{Cluster}
use Rattle.cluster_types.specs.declared.journal.Action.{Action}
use Rattle.cluster_types.specs.declared.journal.Answer.{Answer}
use Rattle.cluster_types.specs.declared.journal.Event.{Event}
use Rattle.cluster_types.specs.declared.journal.Journal.{Journal}
use Rattle.cluster_types.specs.declared.journal.Promotion.{Promotion}
use Rattle.cluster_types.specs.declared.run.RunLine.TheVariants as line
use Rattle.cluster_types.specs.AnswersThatApply.{added_by, applies_after}
use Rattle.cluster_types.specs.Journals.{AreInFlightByNumber, in_flight_by_begin}
use Rattle.cluster_types.specs.Plans.{IsPlan}
use Rattle.cluster_types.specs.Texts.{event_lines}
use Rattle.cluster_types.specs.Steps.{answer_events, count_from_outside, in_flight_by_number, idling}
use Rattle.graph_exec.specs.declared.run.planning.Planned.{Planned}
use Rattle.graph_exec.specs.declared.run.stop.ReplayStop.{ReplayStop}
use Rattle.graph_exec.specs.declared.run.stop.ReplayStop.TheVariants as stop
use Rattle.graph_exec.specs.declared.transition.watcher.Heard.{Heard}
use Rattle.graph_exec.specs.declared.transition.watcher.Heard.TheVariants as heard
use Rattle.graph_exec.specs.Inner.KeptTransitions.{IsUnanswered, TookIdle}
use Rattle.graph_exec.specs.declared.transition.ends.WatchedEnd.{WatchedEnd}
use Rattle.graph_exec.specs.declared.transition.ends.WatchedEnd.TheVariants as how
use Rattle.graph_exec.specs.Inner.Rounds.{Answered, StopsAs}
use Rattle.graph_exec.specs.Inner.Turns.{IsReady}
use Rattle.graph_exec.specs.KnownJournals.{KnownJournalOf}
use Rattle.graph_exec.specs.Replays.{IsShownEnd, IsShownTo}
use Rattle.graph_exec.specs.Executors.{ExecutorOf, IsUnderWay, transition_in, later}
use Rattle.graph_exec.specs.WatcherLines.{RunView, view_amid, view_between, view_later}
use Rattle.graph_exec.specs.Transitions.{EndedByItself}
use Rattle.graph_exec.specs.WatchedTransitions.{IsShownAll, heard_at, view_of}
use Rattle.graph_exec.proofs.Ready.{carries}
use Rattle.graph_exec.proofs.Rests.{none_in_flight}
use Rattle.run_safety.proofs.ByNumber.{by_number}
use Rattle.run_safety.proofs.Printed.{answer_line}

-- an answer that applies is shown with what it adds
abbrev pub IsShownAnswers : (RunView → Type 0) → (RunView → Type 0) → Answer → Type 0
IsShownAnswers Shown Now given =
    (v : RunView) (flight : List (ℕ × Action)) (taken : ℕ) → AreInFlightByNumber v.events flight → applies_after v.cluster v.events flight taken given ≡ true
    → flat_map event_lines (added_by v.cluster v.events flight given) ≡ line.Taken given ∷ [] → Shown v
    → Now (view_later v (added_by v.cluster v.events flight given))

module _ (Shown Now : RunView → Type 0) where
  -- what it has been shown stays so
  pub shown_on : (r : ExecutorOf) → ((v : RunView) → Shown v → Now v) → IsShownAll Shown r → IsShownAll Now r
  shown_on r on h = record { idle = h.idle; shown_now = on (view_of r) h.shown_now }

  pub shown_later : (old new : ExecutorOf) (events : List Event) → new ≡ later old events → (Shown (view_of old) → Now (view_later (view_of old) events)) → IsShownAll Shown old
      → IsShownAll Now new
  shown_later old new events is on h =
      rw is (record {
        idle = h.idle;
        shown_now = subst (λ (es : List Event). Now (view_amid old.cluster old.promotions old.graph.actions es)) (append_assoc old.planned_at old.since events) (on h.shown_now);
      })

  pub shown_taken : (whole : Bool) (old new : ExecutorOf) (rest left : Option (List Answer)) (given : Answer) → Answered whole old new rest left given → IsUnderWay old
      → IsShownAnswers Shown Now given → IsShownAll Shown old → IsShownAll Now new
  shown_taken whole old new rest left given a u on h =
      shown_later old new (answer_events (transition_in old) old.since given) (a.goes_on ∙ ap (later old) a.adds)
      (on (view_of old) (in_flight_by_number (transition_in old) old.since) (count_from_outside (transition_in old) old.since) (by_number (transition_in old) true None None old.since h.idle u.steps) a.applies
      (ap (flat_map event_lines) (sym a.adds) ∙ a.lines)) h

  -- an answer is taken while nothing is to be done
  pub shown_answered : (j next : KnownJournalOf) (given : Answer) → TookIdle j next given → in_flight_by_begin j.events ≡ [] → IsShownAnswers Shown Now given
      → Shown (view_between j.cluster j.promotions j.events) → Now (view_between j.cluster j.promotions next.events)
  shown_answered j next given took idle on h =
      let here : applies_after j.cluster j.events [] 0 given ≡ true
      = subst (λ (x : List Event). applies_after j.cluster x [] 0 given ≡ true) (append-nil j.events) took.applies in
      let same : next.events ≡ j.events ++ added_by j.cluster j.events [] given
      = ap (λ (x : KnownJournalOf). x.events) took.goes_on ∙ ap (λ (x : List Event). j.events ++ added_by j.cluster x [] given) (append-nil j.events) in
      let lines : flat_map event_lines (added_by j.cluster j.events [] given) ≡ line.Taken given ∷ []
      = subst (λ (x : List Event). flat_map event_lines (added_by j.cluster x [] given) ≡ line.Taken given ∷ []) (append-nil j.events)
      (answer_line (idling j.cluster j.events) [] given took.applies) in
      subst (λ (x : List Event). Now (view_between j.cluster j.promotions x)) (sym same)
      (on (view_between j.cluster j.promotions j.events) [] 0 (none_in_flight j.events [] idle refl) here lines h)

-- where no answer was taken, or nothing more was to be done, the watcher went on
module _ (Shown : Heard → ExecutorOf → Type 0) where
  pub same_shown : (whole : Bool) (old new : ExecutorOf) (rest left : Option (List Answer)) (end : WatchedEnd) → StopsAs whole old new rest left end → Shown heard.Go new
      → Shown (heard_at end) new
  same_shown whole old new rest left how.Complete s h = absurd s
  same_shown whole old new rest left (how.Aborted event) s h = absurd s
  same_shown whole old new rest left (how.Unexpected given) s h = h
  same_shown whole old new rest left how.SourceFault s h = h
  same_shown whole old new rest left how.Stopped s h = absurd s

  pub done_shown : (new : ExecutorOf) (end : WatchedEnd) → EndedByItself end → Shown heard.Go new → Shown (heard_at end) new
  done_shown new how.Complete d h = h
  done_shown new (how.Aborted event) d h = h
  done_shown new (how.Unexpected given) d h = absurd d
  done_shown new how.SourceFault d h = absurd d
  done_shown new how.Stopped d h = absurd d

-- nothing of a transition has happened yet
pub shown_first : (Shown : RunView → Type 0) (r : ExecutorOf) → in_flight_by_begin r.planned_at ≡ [] → r.since ≡ []
    → Shown (view_amid r.cluster r.promotions r.graph.actions r.planned_at) → IsShownAll Shown r
shown_first Shown r idle fresh h = record {
  idle = idle;
  shown_now = subst (λ (since : List Event). Shown (view_amid r.cluster r.promotions r.graph.actions (r.planned_at ++ since))) (sym fresh)
      (subst (λ (es : List Event). Shown (view_amid r.cluster r.promotions r.graph.actions es)) (sym (append-nil r.planned_at)) h);
}

-- a transition has gone on, and is closed or left
module _ (r last : ExecutorOf) (same : last ≡ record { cluster = r.cluster; graph = r.graph; planned_at = r.planned_at; since = last.since; promotions = r.promotions })
    (es : List Event) (is : es ≡ last.planned_at ++ last.since) where
  pub shown_closed : (Now : RunView → Type 0) → Now (view_between last.cluster last.promotions (last.planned_at ++ last.since)) → Now (view_between r.cluster r.promotions es)
  shown_closed Now h =
      subst (λ (x : ExecutorOf). Now (view_between x.cluster x.promotions es)) same (subst (λ (x : List Event). Now (view_between last.cluster last.promotions x)) (sym is) h)

  pub shown_left : (Now : Heard → RunView → Type 0) (said : Heard) → Now said (view_of last) → IsShownTo Now r.cluster r.promotions said es
  shown_left Now said h = record {
    plan = Some last.graph.actions;
    shown_last = subst (λ (x : ExecutorOf). Now said (record { cluster = x.cluster; promotions = x.promotions; plan = Some last.graph.actions; events = es })) same
        (subst (λ (x : List Event). Now said (view_amid last.cluster last.promotions last.graph.actions x)) (sym is) h);
  }

  pub shown_closing : (Now : Heard → RunView → Type 0) (said : Heard) → Now said (view_between last.cluster last.promotions (last.planned_at ++ last.since))
      → IsShownTo Now r.cluster r.promotions said es
  shown_closing Now said h = record { plan = None; shown_last = shown_closed (Now said) h }

-- no answer came that applies
pub shown_unanswered : (Shown : Heard → RunView → Type 0) (j : KnownJournalOf) (whole : Bool) (rest left : Option (List Answer)) (over : Bool) (end : Result Journal (ReplayStop Journal))
    → IsUnanswered whole j rest left over end → Shown heard.Go (view_between j.cluster j.promotions j.events) → IsShownEnd Shown j.cluster j.promotions end
shown_unanswered Shown j whole rest left over (Ok journal) w h =
    subst (λ (x : Journal). Shown heard.Go (view_between j.cluster j.promotions x.events)) (sym w.leaves) h
shown_unanswered Shown j whole rest left over (Err (stop.Unexpected journal given)) w h = record {
  plan = None;
  shown_last = subst (λ (x : Journal). Shown heard.Go (view_between j.cluster j.promotions x.events)) (sym w.leaves)
      (subst (λ (x : KnownJournalOf). Shown heard.Go (view_between j.cluster j.promotions x.events)) (sym w.refused.same) h);
}
shown_unanswered Shown j whole rest left over (Err (stop.SourceFault journal)) w h =
    record { plan = None; shown_last = subst (λ (x : Journal). Shown heard.Go (view_between j.cluster j.promotions x.events)) (sym w.leaves) h }
shown_unanswered Shown j whole rest left over (Err (stop.Stopped journal)) w h = absurd w
shown_unanswered Shown j whole rest left over (Err (stop.Most journal)) w h = absurd w
shown_unanswered Shown j whole rest left over (Err stop.NoMemory) w h = tt

-- a plan is shown, and what comes of its transition
module _ (j : KnownJournalOf) (p : Planned) (ready : IsReady j p) where
  pub shown_planned : (Shown Now : RunView → Type 0)
      → ((c : Cluster) (promotions : List Promotion) (es : List Event) (actions : List Action) → IsPlan c es promotions p.placed actions → Shown (view_between c promotions es)
      → Now (view_amid c promotions actions es))
      → Shown (view_between j.cluster j.promotions j.events)
      → Now (view_amid p.executor.cluster p.executor.promotions p.executor.graph.actions p.executor.planned_at)
  shown_planned Shown Now on h =
      subst (λ (r : ExecutorOf). Now (view_amid r.cluster r.promotions r.graph.actions r.planned_at)) (sym ready.fresh)
      (on j.cluster j.promotions j.events p.executor.graph.actions (carries j p ready).plan h)

  pub shown_there : (Now : RunView → Type 0) (es : List Event) → Now (view_between p.executor.cluster p.executor.promotions es) → Now (view_between j.cluster j.promotions es)
  shown_there Now es h = subst (λ (r : ExecutorOf). Now (view_between r.cluster r.promotions es)) ready.fresh h

  pub shown_end : (Now : Heard → RunView → Type 0) (end : Result Journal (ReplayStop Journal)) → IsShownEnd Now p.executor.cluster p.executor.promotions end
      → IsShownEnd Now j.cluster j.promotions end
  shown_end Now end h = subst (λ (r : ExecutorOf). IsShownEnd Now r.cluster r.promotions end) ready.fresh h

  -- the watcher stops at the plan
  pub shown_stopped : (Now : Heard → RunView → Type 0) (said : Heard)
      → Now said (view_amid p.executor.cluster p.executor.promotions p.executor.graph.actions p.executor.planned_at)
      → (es : List Event) → es ≡ p.executor.planned_at ++ p.executor.since → IsShownTo Now j.cluster j.promotions said es
  shown_stopped Now said h es is = record {
    plan = Some p.executor.graph.actions;
    shown_last =
        let events : es ≡ j.events = is ∙ (ap (λ (r : ExecutorOf). r.planned_at ++ r.since) ready.fresh ∙ append-nil j.events) in
        subst (λ (x : List Event). Now said (view_amid j.cluster j.promotions p.executor.graph.actions x)) (sym events)
        (subst (λ (r : ExecutorOf). Now said (view_amid r.cluster r.promotions p.executor.graph.actions r.planned_at)) ready.fresh h);
  }

-- the same, by the names of another cluster and other scores that are these
module _ (c d : Cluster) (promotions scores : List Promotion) (same : d ≡ c) (like : scores ≡ promotions) where
  same_view : (es : List Event) → view_between d scores es ≡ view_between c promotions es
  same_view es = ap (λ (x : Cluster). view_between x scores es) same ∙ ap (λ (x : List Promotion). view_between c x es) like

  pub shown_behind : (Shown Now : RunView → Type 0) (es later : List Event) → (Shown (view_between d scores es) → Now (view_between d scores later))
      → Shown (view_between c promotions es) → Now (view_between c promotions later)
  shown_behind Shown Now es later on h = subst Now (same_view later) (on (subst Shown (sym (same_view es)) h))

  pub end_behind : (Shown : RunView → Type 0) (Now : Heard → RunView → Type 0) (es : List Event) (end : Result Journal (ReplayStop Journal))
      → (Shown (view_between d scores es) → IsShownEnd Now d scores end) → Shown (view_between c promotions es) → IsShownEnd Now c promotions end
  end_behind Shown Now es end on h =
      subst (λ (x : List Promotion). IsShownEnd Now c x end) like
      (subst (λ (x : Cluster). IsShownEnd Now x scores end) same (on (subst Shown (sym (same_view es)) h)))
