-- A run that is kept goes on by one more transition.
use Rattle.std.proofs.Common.{arith, ◌≡◌, ◌+◌, ℕ, Bool, true, false, List, [], ◌∷◌, ◌++◌, length, refl, sym, ap, ◌∙◌, subst}
use Rattle.std.specs.Prelude.{Option, Some, Result}
use Rattle.std.specs.List.{AllByRecursion, flat_map}
use Rattle.std.proofs.lemmas.List.{length-append}
use Rattle.lemmas.proofs.Booleans.{fails_too}
use Rattle.lemmas.proofs.Members.{all_append}
use Rattle.cluster_types.specs.declared.cluster.Cluster.{Cluster}
use Rattle.cluster_types.specs.declared.journal.Answer.{Answer}
use Rattle.cluster_types.specs.declared.journal.Event.{Event}
use Rattle.cluster_types.specs.declared.journal.Journal.{Journal}
use Rattle.cluster_types.specs.declared.journal.Promotion.{Promotion}
use Rattle.cluster_types.specs.declared.placement.Placed.{Placed}
use Rattle.cluster_types.specs.declared.run.Passed.{Passed}
use Rattle.cluster_types.specs.declared.run.PassedEnd.{PassedEnd}
use Rattle.cluster_types.specs.declared.run.PassedEnd.TheVariants as passed_as
use Rattle.cluster_types.specs.declared.run.RunLine.{RunLine}
use Rattle.cluster_types.specs.declared.run.RunLine.TheVariants as line
use Rattle.cluster_types.specs.AnswersThatApply.{applies_after}
use Rattle.cluster_types.specs.Graphs.{GraphOf}
use Rattle.cluster_types.specs.Plans.{CarriesOut, transition_on}
use Rattle.cluster_types.specs.Runs.{RunStanding, due, amid, idle, completes, aborts, Runs, here, journal_at}
use Rattle.cluster_types.specs.Steps as steps
use Rattle.cluster_types.specs.Steps.{Transition, HasEnded, IsWaiting, in_flight_by_number, has_aborted, count_from_outside}
use Rattle.cluster_types.specs.Tables.{targets_of}
use Rattle.cluster_types.specs.Texts.{all_passed_lines, end_lines, event_lines, target_lines}
use Rattle.cluster_types.proofs.SourceLaws.{carries-out}
use Rattle.graph_exec.specs.KnownJournals.{KnownJournalOf}
use Rattle.graph_exec.specs.Executors.{ExecutorOf, Went, transition_in}
use Rattle.graph_exec.specs.Inner.ExecutorFields.{running_journal}
use Rattle.graph_exec.specs.Transitions.{IsAborted, IsComplete, IsCutBy, WentAsSaid, WentBeforeSaid}
use Rattle.graph_exec.proofs.Beginning.{found_so}
use Rattle.graph_exec.proofs.Said.{taken_none}
use Rattle.run_safety.proofs.Kept.{one_passed_more}
use Rattle.run_safety.proofs.SoFar.{runs_joined, runs_once}
use Rattle.graph_exec.specs.declared.run.stop.ReplayStop.{ReplayStop}
use Rattle.graph_exec.specs.declared.run.planning.Planned.{Planned}
use Rattle.graph_exec.specs.Inner.KeptTransitions.{IsAnswered, IsUnanswered, KeepsPassed, KeepsCut, KeepsEnd, KeepsSoFar, KeepsTo}
use Rattle.graph_exec.specs.KeptRuns.{IsPassedOfPlan, StandsSo}
use Rattle.graph_exec.specs.Replays.{Setting, setting}
use Rattle.graph_exec.specs.Inner.Turns.{IsReady, IsSaid, left_of}
use Rattle.graph_exec.proofs.Joined.{said_then}
use Rattle.graph_exec.proofs.KeptEnds.{kept_answered, kept_unanswered}
use Rattle.graph_exec.proofs.KeptPlans.{each_more, newly_of_plan, passed_by, within_each}
use Rattle.graph_exec.proofs.Ready.{carries}
use Rattle.graph_exec.proofs.Steps.{part_runs, part_said, planned_said, planned_step}
use Rattle.graph_exec.specs.WatcherLines.{plan_lines}

-- the lines of a transition that is kept, by its number and its events
abbrev pub lines_of_passed : Cluster → ℕ → List Event → Passed → List RunLine
lines_of_passed c k since p =
    ((line.Transition k ∷ target_lines c p.pins (targets_of p.table) p.none) ++ flat_map event_lines since) ++ end_lines c k p.end

-- nothing of a graph has begun
abbrev pub begun_on : Setting → List Event → GraphOf → ExecutorOf
begun_on s es g = record { cluster = s.cluster; graph = g; planned_at = es; since = []; promotions = s.promotions }

module _ (s : Setting) (es : List Event) (first rest : Option (List Answer)) (over : Bool) (passed : List Passed) (before : List Event)
    (keeps : KeepsPassed s es first rest over passed (due (1 + length passed) before)) where
  one_kept : (over_now : Bool) → (s.steady ≡ true → over ≡ true → over_now ≡ true) → (since : List Event) (left : Option (List Answer)) (p : Passed) (at : RunStanding)
      → journal_at at ≡ before ++ since → p.begins_at ≡ length before → p.ends_at ≡ length before + length since → IsPassedOfPlan s.cluster s.promotions (before ++ since) p
      → Runs s.cluster s.promotions s.whole (due (1 + length passed) before) rest (lines_of_passed s.cluster (1 + length passed) since p) at left
      → (s.steady ≡ true → over_now ≡ false → IsSaid s (due (1 + length passed) before) at (lines_of_passed s.cluster (1 + length passed) since p) rest left)
      → KeepsPassed s es first left over_now (passed ++ p ∷ []) at
  one_kept over_now stays since left p at there begins ends is runs said =
      let so_far = all_passed_lines s.cluster before 1 passed in
      let more = lines_of_passed s.cluster (1 + length passed) since p in
      let lines : so_far ++ more ≡ all_passed_lines s.cluster (journal_at at) 1 (passed ++ p ∷ []) =
      sym (ap (λ (x : List Event). all_passed_lines s.cluster x 1 (passed ++ p ∷ [])) there
      ∙ one_passed_more before since s.cluster p begins ends 1 (1 + length passed) passed refl (within_each s.cluster s.promotions before passed keeps.each)) in
      record {
        runs = subst (λ (x : List RunLine). Runs s.cluster s.promotions s.whole (due 1 es) first x at left) lines
            (runs_joined s.cluster s.promotions s.whole (due 1 es) (due (1 + length passed) before) at first rest left so_far more keeps.runs runs);
        said = λ steady open_still. subst (λ (x : List RunLine). IsSaid s (due 1 es) at x first left) lines
            (said_then s (due 1 es) (due (1 + length passed) before) at so_far more first rest left (keeps.said steady (fails_too over over_now (stays steady) open_still)) (said steady open_still));
        each = subst (λ (x : List Event). AllByRecursion (IsPassedOfPlan s.cluster s.promotions x) (passed ++ p ∷ [])) (sym there)
            (all_append (IsPassedOfPlan s.cluster s.promotions (before ++ since)) passed (p ∷ [])
            (each_more s.cluster s.promotions before since passed keeps.each) (is, tt));
      }

  module _ (placed : Placed) (g : GraphOf) (out : CarriesOut s.cluster before s.promotions placed g) (now : ExecutorOf) where
    abbrev number : ℕ
    number = 1 + length passed

    abbrev on : Transition
    on = transition_on s.cluster g before

    abbrev here_lines : List RunLine
    here_lines = plan_lines s.cluster number placed ++ flat_map event_lines now.since

    there_by : (left : Option (List Answer)) → Went s.whole (begun_on s before g) now rest left
        → Runs s.cluster s.promotions s.whole (due number before) rest here_lines (amid number on now.since) left
    there_by left went =
        runs_joined s.cluster s.promotions s.whole (due number before) (amid number on []) (amid number on now.since) rest rest left
        (plan_lines s.cluster number placed) (flat_map event_lines now.since)
        (runs_once s.cluster s.promotions s.whole (due number before) (amid number on []) rest rest (plan_lines s.cluster number placed)
        (planned_step s number before placed g out s.whole rest))
        (part_runs s.cluster s.promotions s.whole number on [] now.since rest left refl went.steps)

    said_there : (left : Option (List Answer)) → WentAsSaid (begun_on s before g) now rest left
        → IsSaid s (due number before) (amid number on now.since) here_lines rest left
    said_there left w =
        said_then s (due number before) (amid number on []) (amid number on now.since) (plan_lines s.cluster number placed) (flat_map event_lines now.since)
        rest rest left (planned_said s number before placed g out rest) (part_said s number (begun_on s before g) now refl rest left w)

    -- the transition is kept, with what closes it
    module _ (over_now : Bool) (stays : s.steady ≡ true → over ≡ true → over_now ≡ true) (left : Option (List Answer)) (went : Went s.whole (begun_on s before g) now rest left)
        (said : s.steady ≡ true → over_now ≡ false → WentAsSaid (begun_on s before g) now rest left)
        (from to : ℕ) (begins : from ≡ length before) (ends : to ≡ length before + length now.since) where
      closed_so : (how : PassedEnd) (at : RunStanding) → journal_at at ≡ before ++ now.since → StandsSo on now.since how
          → ((w : Bool) (xs : Option (List Answer)) → Runs s.cluster s.promotions w (amid number on now.since) xs (end_lines s.cluster number how) at xs)
          → KeepsPassed s es first left over_now (passed ++ passed_by placed from to how ∷ []) at
      closed_so how at there stands close =
          one_kept over_now stays now.since left (passed_by placed from to how) at there begins ends
          (newly_of_plan s.cluster s.promotions before now.since placed g.actions out.plan from to how begins ends
          (subst (λ (t : Transition). StandsSo t now.since how) (carries-out s.cluster before s.promotions placed g out) stands))
          (runs_joined s.cluster s.promotions s.whole (due number before) (amid number on now.since) at rest left left here_lines (end_lines s.cluster number how)
          (there_by left went) (close s.whole left))
          (λ steady open_still. said_then s (due number before) (amid number on now.since) at here_lines (end_lines s.cluster number how) rest left left
          (said_there left (said steady open_still)) (record { answers = []; runs = λ ys. close false (Some ys); taken = taken_none left }))

      same_going : transition_in now ≡ on
      same_going = ap transition_in went.same

      pub kept_complete : HasEnded (transition_in now) now.since → has_aborted (transition_in now) now.since ≡ false
          → KeepsPassed s es first left over_now (passed ++ passed_by placed from to passed_as.Complete ∷ []) (idle number (before ++ now.since))
      kept_complete ended unaborted =
          let over_there = subst (λ (t : Transition). HasEnded t now.since) same_going ended in
          let not_aborted = subst (λ (t : Transition). has_aborted t now.since ≡ false) same_going unaborted in
          closed_so passed_as.Complete (idle number (before ++ now.since)) refl (over_there, not_aborted)
          (λ w xs. runs_once s.cluster s.promotions w _ _ xs xs (line.Complete number ∷ []) (completes number on now.since xs over_there not_aborted))

      pub kept_aborted : HasEnded (transition_in now) now.since → has_aborted (transition_in now) now.since ≡ true
          → KeepsPassed s es first left over_now (passed ++ passed_by placed from to passed_as.Aborted ∷ []) (due (number + 1) (before ++ now.since))
      kept_aborted ended aborted =
          let over_there = subst (λ (t : Transition). HasEnded t now.since) same_going ended in
          let has = subst (λ (t : Transition). has_aborted t now.since ≡ true) same_going aborted in
          closed_so passed_as.Aborted (due (number + 1) (before ++ now.since)) refl (over_there, has)
          (λ w xs. runs_once s.cluster s.promotions w _ _ xs xs (line.Aborted number ∷ []) (aborts number on now.since xs over_there has))

      pub kept_cut : IsWaiting (transition_in now) now.since
          → KeepsPassed s es first left over_now (passed ++ passed_by placed from to passed_as.Cut ∷ []) (amid number on now.since)
      kept_cut waiting =
          closed_so passed_as.Cut (amid number on now.since) refl (subst (λ (t : Transition). IsWaiting t now.since) same_going waiting)
          (λ w xs. here (amid number on now.since) xs)

-- the transition that is planned, from its plan to its end, where it is the last that is kept
module _ (j : KnownJournalOf) (p : Planned) (ready : IsReady j p) (whole steady : Bool) (es : List Event) (first rest : Option (List Answer)) (over : Bool) (passed : List Passed) where
  abbrev here_set : Setting
  here_set = setting j.cluster j.promotions whole steady

  module _ (keeps : KeepsPassed here_set es first rest over passed (due (1 + length passed) j.events)) (now : ExecutorOf) (from to : ℕ) (begins : from ≡ length j.events)
      (ends : to ≡ length (now.planned_at ++ now.since)) (q : Passed) (how : PassedEnd) (is : q ≡ passed_by p.placed from to how)
      (all : List Passed) (added : all ≡ passed ++ q ∷ []) where
    all_are : (ending : PassedEnd) → how ≡ ending → passed ++ passed_by p.placed from to ending ∷ [] ≡ all
    all_are ending e = sym (added ∙ ap (λ (x : Passed). passed ++ x ∷ []) (is ∙ ap (λ (x : PassedEnd). passed_by p.placed from to x) e))

    one_longer : length all ≡ length passed + 1
    one_longer = ap (λ (x : List Passed). length x) added ∙ length-append passed (q ∷ [])

    module _ (left : Option (List Answer)) (went : Went whole p.executor now rest left) where
      went_fresh : Went whole (begun_on here_set j.events p.executor.graph) now rest left
      went_fresh = subst (λ (r : ExecutorOf). Went whole r now rest left) ready.fresh went

      said_fresh : WentAsSaid p.executor now rest left → WentAsSaid (begun_on here_set j.events p.executor.graph) now rest left
      said_fresh w = subst (λ (r : ExecutorOf). WentAsSaid r now rest left) ready.fresh w

      planned_same : now.planned_at ≡ j.events
      planned_same = ap (λ (r : ExecutorOf). r.planned_at) went_fresh.same

      ends_there : to ≡ length j.events + length now.since
      ends_there = ends ∙ length-append now.planned_at now.since ∙ ap (λ (x : List Event). length x + length now.since) planned_same

      known_events : (later : KnownJournalOf) → later ≡ running_journal now → j.events ++ now.since ≡ later.events
      known_events later e = sym (ap (λ (x : KnownJournalOf). x.events) e ∙ ap (λ (x : List Event). x ++ now.since) planned_same)

      module _ (over_now : Bool) (stays : steady ≡ true → over ≡ true → over_now ≡ true) (said : steady ≡ true → over_now ≡ false → WentAsSaid p.executor now rest left) where
        idle_there : how ≡ passed_as.Complete → IsComplete now → (later : KnownJournalOf) → later ≡ running_journal now
            → KeepsPassed here_set es first left over_now all (idle (1 + length passed) later.events)
        idle_there e complete later known =
            subst (λ (x : List Passed). KeepsPassed here_set es first left over_now x (idle (1 + length passed) later.events)) (all_are passed_as.Complete e)
            (subst (λ (x : List Event). KeepsPassed here_set es first left over_now (passed ++ passed_by p.placed from to passed_as.Complete ∷ []) (idle (1 + length passed) x))
            (known_events later known)
            (kept_complete here_set es first rest over passed j.events keeps p.placed p.executor.graph (carries j p ready) now over_now stays left went_fresh
            (λ always open_still. said_fresh (said always open_still)) from to begins ends_there complete.ended complete.unaborted))

        -- an answer came while nothing was to be done
        pub goes_on_answered : how ≡ passed_as.Complete → IsComplete now → (later : KnownJournalOf) → later ≡ running_journal now → (unread : Option (List Answer)) (over_then : Bool)
            → (steady ≡ true → over_now ≡ true → over_then ≡ true) → (given : Answer) (next : KnownJournalOf) → IsAnswered whole later left unread given next
            → KeepsTo here_set es first unread over_then all next
        goes_on_answered e complete later known unread over_then still given next w =
            let longer = one_longer in
            subst (λ (k : ℕ). KeepsPassed here_set es first unread over_then all (due k next.events)) (omega (arith, longer))
            (kept_answered here_set es first left unread over_now all (1 + length passed) later
            (ap (λ (x : KnownJournalOf). x.cluster) known ∙ ap (λ (r : ExecutorOf). r.cluster) went_fresh.same) (idle_there e complete later known)
            over_then still (omega (arith, longer)) given w.said next w.took)

        -- none came that applies
        pub ends_unanswered_there : how ≡ passed_as.Complete → IsComplete now → (later : KnownJournalOf) → later ≡ running_journal now → (unread : Option (List Answer))
            → (end : Result Journal (ReplayStop Journal)) → IsUnanswered whole later left unread over_now end → KeepsEnd here_set es first unread all end
        ends_unanswered_there e complete later known unread end w =
            kept_unanswered here_set es first left unread over_now all (1 + length passed) later
            (ap (λ (x : KnownJournalOf). x.cluster) known ∙ ap (λ (r : ExecutorOf). r.cluster) went_fresh.same) (idle_there e complete later known)
            (ap (λ (x : KnownJournalOf). x.promotions) known ∙ ap (λ (r : ExecutorOf). r.promotions) went_fresh.same) end w

        pub goes_on_aborted : (event : Event) → how ≡ passed_as.Aborted → IsAborted now event → (later : KnownJournalOf) → later ≡ running_journal now
            → KeepsTo here_set es first left over_now all later
        goes_on_aborted event e aborted later known =
            let longer = one_longer in
            subst (λ (k : ℕ). KeepsPassed here_set es first left over_now all (due k later.events)) (omega (arith, longer))
            (subst (λ (x : List Passed). KeepsPassed here_set es first left over_now x (due (1 + length passed + 1) later.events)) (all_are passed_as.Aborted e)
            (subst (λ (x : List Event). KeepsPassed here_set es first left over_now (passed ++ passed_by p.placed from to passed_as.Aborted ∷ []) (due (1 + length passed + 1) x))
            (known_events later known)
            (kept_aborted here_set es first rest over passed j.events keeps p.placed p.executor.graph (carries j p ready) now over_now stays left went_fresh
            (λ always open_still. said_fresh (said always open_still)) from to begins ends_there aborted.ended
            (found_so (steps.aborts now.cluster) now.since (Some event) aborted.first_is))))

        cut_there : how ≡ passed_as.Cut → IsWaiting (transition_in now) now.since
            → KeepsPassed here_set es first left over_now all (amid (1 + length passed) (transition_on j.cluster p.executor.graph j.events) now.since)
        cut_there e waiting =
            subst (λ (x : List Passed). KeepsPassed here_set es first left over_now x (amid (1 + length passed) (transition_on j.cluster p.executor.graph j.events) now.since))
            (all_are passed_as.Cut e)
            (kept_cut here_set es first rest over passed j.events keeps p.placed p.executor.graph (carries j p ready) now over_now stays left went_fresh
            (λ always open_still. said_fresh (said always open_still)) from to begins ends_there waiting)

      leaves_there : (journal : Journal) → journal ≡ left_of now → journal ≡ record { events = j.events ++ now.since; promotions = j.promotions }
      leaves_there journal e =
          e ∙ ap (λ (x : List Event). record { events = x ++ now.since; promotions = now.promotions }) planned_same
          ∙ ap (λ (x : List Promotion). record { events = j.events ++ now.since; promotions = x }) (ap (λ (r : ExecutorOf). r.promotions) went_fresh.same)

      going_there : transition_in now ≡ transition_on j.cluster p.executor.graph j.events
      going_there = ap transition_in went_fresh.same

    -- the source failed
    pub ends_failed : (left : Option (List Answer)) → Went whole p.executor now rest left → how ≡ passed_as.Cut → IsWaiting (transition_in now) now.since
        → (steady ≡ true → WentAsSaid p.executor now rest left) → (steady ≡ true → over ≡ false) → (journal : Journal) → journal ≡ left_of now
        → KeepsSoFar here_set es first left all journal
    ends_failed left went e waiting said not_over journal leaves = record {
      last = amid (1 + length passed) (transition_on j.cluster p.executor.graph j.events) now.since;
      keeps = cut_there left went false (λ always h. let n = not_over always in absurd (let f : ⊥ = cc in f)) (λ always open_still. said always) e waiting;
      asking = subst (λ (t : Transition). IsWaiting t now.since) (going_there left went) waiting;
      leaves = leaves_there left went journal leaves;
    }

    -- an answer came that doesn't apply
    pub ends_cut : (left : Option (List Answer)) (given : Answer) → WentBeforeSaid whole p.executor now rest left given → how ≡ passed_as.Cut → IsCutBy now given
        → (journal : Journal) → journal ≡ left_of now → KeepsCut here_set es first left all journal given
    ends_cut left given w e by journal leaves =
        let same = going_there w.before w.went in
        let t = transition_on j.cluster p.executor.graph j.events in
        let refused : applies_after t.cluster (steps.journal t now.since) (in_flight_by_number t now.since) (count_from_outside t now.since) given ≡ false =
        subst (λ (t : Transition). applies_after t.cluster (steps.journal t now.since) (in_flight_by_number t now.since) (count_from_outside t now.since) given ≡ false) same by.refused in
        record {
          last = amid (1 + length passed) t now.since;
          unread = w.before;
          keeps = cut_there w.before w.went true (λ always h. refl) (λ always open_still. absurd (let f : ⊥ = cc in f)) e by.waiting;
          cut = record {
            asking = subst (λ (t : Transition). IsWaiting t now.since) same by.waiting;
            said = w.said;
            refused = λ applies. let f : ⊥ = cc in f;
          };
          leaves = leaves_there w.before w.went journal leaves;
        }
