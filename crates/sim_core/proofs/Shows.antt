-- What an auditor has been shown, call by call.
use Rattle.std.proofs.Common.{◌≡◌, Bool, true, if◌then◌else◌, ℕ, List, [], ◌∷◌, ◌++◌, append-nil, append_assoc, take, refl, sym, ap, subst, ◌∙◌}
use Rattle.std.specs.Prelude.{filter}
use Rattle.std.specs.List.{AllByRecursion, flat_map}
use Rattle.std.proofs.lemmas.Grind.{flat_map-append}
use Rattle.std.proofs.lemmas.List.Elements.{filter-append}
use Rattle.cluster_types.specs.declared.cluster.Cluster.{Cluster}
use Rattle.cluster_types.specs.declared.journal.Event.{Event}
use Rattle.cluster_types.specs.declared.placement.Placed.{Placed}
use Rattle.cluster_types.specs.declared.run.RunLine.{RunLine}
use Rattle.cluster_types.specs.declared.run.RunLine.TheVariants as line
use Rattle.cluster_types.specs.Tables.{targets_of}
use Rattle.cluster_types.specs.Texts.{event_lines}
use Rattle.graph_exec.specs.declared.transition.watcher.Heard.{Heard}
use Rattle.graph_exec.specs.declared.transition.watcher.Heard.TheVariants as heard
use Rattle.graph_exec.specs.WatcherLines.{RunView, StopsAmong, plan_lines, view_later}
use Rattle.sim_core.specs.declared.auditor.Auditor.{Auditor}
use Rattle.written_runs.proofs.Telling.{IsOfPlanning, plan_lines as of_planning}
use Rattle.sim_core.specs.Inner.Auditors.{PassesLines, ShowsEvents, ShowsRun, StopsAtLine, audited_lines, is_event_line}

-- no line of a plan is of an event
none_of : (lines : List RunLine) → AllByRecursion IsOfPlanning lines → filter is_event_line lines ≡ []
none_of [] h = refl
none_of (line.Begin k a ∷ lines) h = absurd h.0
none_of (line.Taken given ∷ lines) h = absurd h.0
none_of (_ ∷ lines) h = none_of lines h.1

pub none_of_plan : (c : Cluster) (number : ℕ) (placed : Placed) → filter is_event_line (plan_lines c number placed) ≡ []
none_of_plan c number placed = none_of (plan_lines c number placed) (of_planning c placed.pins (targets_of placed.table) placed.none number)

-- of lines none of which is of an event, none of the first is
first_none : (front behind lines : List RunLine) → lines ≡ front ++ behind → filter is_event_line lines ≡ [] → filter is_event_line front ≡ []
first_none front behind lines parts none = by (filter is_event_line front) (filter is_event_line behind) (sym (filter-append is_event_line front behind) ∙ (ap (filter is_event_line) (sym parts) ∙ none)) where
  by : (xs ys : List RunLine) → xs ++ ys ≡ [] → xs ≡ []
  by [] ys e = refl
  by (x ∷ xs) ys e = cc

module _ (old new : Auditor) where
  -- it passes lines, and these events have those of them that are of events, and then these
  shows_on : (lines : List RunLine) → PassesLines old new lines → (es more : List Event) (last : List RunLine) → flat_map event_lines more ≡ filter is_event_line lines ++ last
      → ShowsEvents old es [] → ShowsEvents new (es ++ more) last
  shows_on lines p es more last adds h =
      let told = take old.place (audited_lines old) in
      record {
        first = h.first;
        events = h.events ++ more;
        parts = ap (λ (xs : List Event). xs ++ more) h.parts ∙ append_assoc h.first h.events more;
        lines_are =
            flat_map-append event_lines h.events more
            ∙ (ap (λ ls. ls ++ flat_map event_lines more) (h.lines_are ∙ append-nil (filter is_event_line told))
            ∙ (ap (λ ls. filter is_event_line told ++ ls) adds
            ∙ (sym (append_assoc (filter is_event_line told) (filter is_event_line lines) last)
            ∙ ap (λ ls. ls ++ last) (sym (filter-append is_event_line told lines) ∙ ap (filter is_event_line) (sym p.passed)))));
      }

  -- nothing happens
  shows_still : (lines : List RunLine) → PassesLines old new lines → filter is_event_line lines ≡ [] → (es : List Event) → ShowsEvents old es [] → ShowsEvents new es []
  shows_still lines p none es h =
      subst (λ (xs : List Event). ShowsEvents new xs []) (append-nil es)
      (shows_on lines p es [] [] (sym (append-nil (filter is_event_line lines) ∙ none)) h)

  -- a line of an event is told
  pub shows_event : (l : RunLine) → is_event_line l ≡ true → (more : List Event) → flat_map event_lines more ≡ l ∷ [] → (h : Heard)
      → (h ≡ heard.Go → PassesLines old new (l ∷ [])) → (h ≡ heard.Stop → StopsAtLine old new [] l) → (v : RunView) → ShowsRun old heard.Go v
      → ShowsRun new h (view_later v more)
  shows_event l is more lines heard.Go passes stops v was =
      shows_on (l ∷ []) (passes refl) v.events more []
      (lines ∙ sym (append-nil (filter is_event_line (l ∷ [])) ∙ ap (λ (b : Bool). if b then l ∷ [] else []) is)) was
  shows_event l is more lines heard.Stop passes stops v was =
      record { last = l ∷ []; shows = shows_on [] (stops refl).passes v.events more (l ∷ []) lines was }

  -- lines are told none of which is of an event
  pub shows_others : (lines : List RunLine) → filter is_event_line lines ≡ [] → (h : Heard) → (h ≡ heard.Go → PassesLines old new lines)
      → (h ≡ heard.Stop → StopsAmong (StopsAtLine old new) lines) → (v w : RunView) → w.events ≡ v.events → ShowsRun old heard.Go v → ShowsRun new h w
  shows_others lines none heard.Go passes stops v w same was =
      subst (λ (es : List Event). ShowsEvents new es []) (sym same) (shows_still lines (passes refl) none v.events was)
  shows_others lines none heard.Stop passes stops v w same was =
      let s = stops refl in
      record {
        last = [];
        shows = subst (λ (es : List Event). ShowsEvents new es []) (sym same)
            (shows_still s.before s.stopped.passes (first_none s.before (s.at ∷ s.behind) lines s.parts none) v.events was);
      }
