-- What a watcher was told, step by step.
use Rattle.std.proofs.Common.{◌≡◌, inl, inr, ℕ, Bool, Option, Some, None, List, [], ◌∷◌, ◌++◌, append-nil, append_assoc, refl, sym, ap, ◌∙◌, subst}
use Rattle.std.specs.List.{flat_map}
use Rattle.std.proofs.lemmas.Grind.{flat_map-append}
use Rattle.cluster_types.specs.declared.journal.Answer.{Answer}
use Rattle.cluster_types.specs.declared.journal.Event.{Event}
use Rattle.cluster_types.specs.declared.journal.Event.TheVariants.{Begin}
use Rattle.cluster_types.specs.declared.run.RunLine.{RunLine}
use Rattle.cluster_types.specs.declared.run.RunLine.TheVariants as line
use Rattle.cluster_types.specs.Steps.{IsWaiting, StepsOn, begins}
use Rattle.cluster_types.specs.Texts.{event_lines}
use Rattle.graph_exec.specs.declared.transition.ends.WatchedEnd.{WatchedEnd}
use Rattle.graph_exec.specs.declared.transition.ends.WatchedEnd.TheVariants as how
use Rattle.graph_exec.specs.declared.transition.watcher.Heard.{Heard}
use Rattle.graph_exec.specs.declared.transition.watcher.Heard.TheVariants as heard
use Rattle.graph_exec.specs.Inner.Rounds.{Answered, StopsAs}
use Rattle.graph_exec.specs.Executors.{ExecutorOf, BeginsNow, Went, transition_in, later}
use Rattle.graph_exec.specs.Transitions.{EndedByItself}
use Rattle.graph_exec.specs.WatchedTransitions.{IsToldUpTo, AreLinesTold, heard_at}
use Rattle.graph_exec.proofs.Carrying.{went_nowhere, went_on}

pub told_nothing : (Follows : List RunLine → Type 0) → Follows [] → (r : ExecutorOf) → AreLinesTold Follows r r
told_nothing Follows none r = record { events = []; happened = sym (append-nil r.since); told = none }

-- one part, and then the next
module _ (First Then All : List RunLine → Type 0) (join : (lines more : List RunLine) → First lines → Then more → All (lines ++ more)) where
  pub told_on : (first middle last : ExecutorOf) → AreLinesTold First first middle → AreLinesTold Then middle last → AreLinesTold All first last
  told_on first middle last a b = record {
    events = a.events ++ b.events;
    happened = b.happened ∙ ap (λ (es : List Event). es ++ b.events) a.happened ∙ append_assoc first.since a.events b.events;
    told = subst All (sym (flat_map-append event_lines a.events b.events)) (join (flat_map event_lines a.events) (flat_map event_lines b.events) a.told b.told);
  }

  module _ (StopThen StopAll : List RunLine → Option RunLine → Type 0)
      (stop : (lines more : List RunLine) (at : Option RunLine) → First lines → StopThen more at → StopAll (lines ++ more) at)
      (whole : Bool) (first middle last : ExecutorOf) (rest between left : Option (List Answer)) where
    pub hears_on : (h : Heard) → Went whole first middle rest between → AreLinesTold First first middle → IsToldUpTo Then StopThen whole middle last between left h
        → IsToldUpTo All StopAll whole first last rest left h
    hears_on heard.Go w a b = told_on first middle last a b
    hears_on heard.Stop w a (inl b) = inl (record {
      at = b.at;
      middle = b.middle;
      before = a.events ++ b.before;
      events = b.events;
      line = b.line;
      went = went_on whole first middle b.at rest between b.middle w b.went;
      happened = b.happened ∙ ap (λ (es : List Event). es ++ b.before) a.happened ∙ append_assoc first.since a.events b.before;
      step = b.step;
      last = b.last;
      line_is = b.line_is;
      stopped = subst (λ (lines : List RunLine). StopAll lines (Some b.line)) (sym (flat_map-append event_lines a.events b.before))
          (stop (flat_map event_lines a.events) (flat_map event_lines b.before) (Some b.line) a.told b.stopped);
    })
    hears_on heard.Stop w a (inr b) = inr (record {
      waiting = b.waiting;
      told = record {
        events = a.events ++ b.told.events;
        happened = b.told.happened ∙ ap (λ (es : List Event). es ++ b.told.events) a.happened ∙ append_assoc first.since a.events b.told.events;
        told = subst (λ (lines : List RunLine). StopAll lines None) (sym (flat_map-append event_lines a.events b.told.events))
            (stop (flat_map event_lines a.events) (flat_map event_lines b.told.events) None a.told b.told.told);
      };
    })

module _ (Follows : List RunLine → Type 0) (Stopped : List RunLine → Option RunLine → Type 0) (whole : Bool) (old new : ExecutorOf) (rest left : Option (List Answer)) where
  -- one step, of one line
  hears_step : (events : List Event) (said : RunLine) → StepsOn (transition_in old) whole old.since rest events left → new ≡ later old events
      → flat_map event_lines events ≡ said ∷ [] → (h : Heard) → (h ≡ heard.Go → Follows (said ∷ [])) → (h ≡ heard.Stop → Stopped [] (Some said))
      → IsToldUpTo Follows Stopped whole old new rest left h
  hears_step events said step goes_on lines heard.Go follows stopped =
      record { events = events; happened = ap (λ (r : ExecutorOf). r.since) goes_on; told = subst Follows (sym lines) (follows refl) }
  hears_step events said step goes_on lines heard.Stop follows stopped = inl (record {
    at = old;
    middle = rest;
    before = [];
    events = events;
    line = said;
    went = went_nowhere whole old rest;
    happened = sym (append-nil old.since);
    step = step;
    last = goes_on;
    line_is = lines;
    stopped = stopped refl;
  })

  pub hears_begin : (k : ℕ) (b : BeginsNow old new k) (h : Heard) → left ≡ rest → (h ≡ heard.Go → Follows (line.Begin k b.action ∷ []))
      → (h ≡ heard.Stop → Stopped [] (Some (line.Begin k b.action))) → IsToldUpTo Follows Stopped whole old new rest left h
  hears_begin k b h same follows stopped =
      hears_step (Begin k b.action ∷ []) (line.Begin k b.action)
      (subst (λ (x : Option (List Answer)). StepsOn (transition_in old) whole old.since rest (Begin k b.action ∷ []) x) (sym same) (begins rest k b.action b.begins)) b.goes_on refl
      h follows stopped

  pub hears_answer : (given : Answer) (a : Answered whole old new rest left given) (h : Heard) → (h ≡ heard.Go → Follows (line.Taken given ∷ []))
      → (h ≡ heard.Stop → Stopped [] (Some (line.Taken given))) → IsToldUpTo Follows Stopped whole old new rest left h
  hears_answer given a h follows stopped = hears_step a.events (line.Taken given) a.step a.goes_on a.lines h follows stopped

  -- the watcher stops as the source is about to be asked
  pub hears_asking : IsWaiting (transition_in old) old.since → new ≡ old → Stopped [] None → IsToldUpTo Follows Stopped whole old new rest left heard.Stop
  hears_asking waiting same stopped =
      rw same (inr (record { waiting = waiting; told = told_nothing (λ lines. Stopped lines None) stopped old }))

  -- where no answer was taken, nothing is told
  pub hears_none : Follows [] → (end : WatchedEnd) → StopsAs whole old new rest left end → IsToldUpTo Follows Stopped whole old new rest left (heard_at end)
  hears_none none how.Complete s = absurd s
  hears_none none (how.Aborted event) s = absurd s
  hears_none none (how.Unexpected given) s = rw s.refused.same (told_nothing Follows none old)
  hears_none none how.SourceFault s = rw s.same (told_nothing Follows none old)
  hears_none none how.Stopped s = absurd s

  -- nor where nothing more was to be done
  pub hears_done : (end : WatchedEnd) → EndedByItself end → AreLinesTold Follows old new → IsToldUpTo Follows Stopped whole old new rest left (heard_at end)
  hears_done how.Complete d t = t
  hears_done (how.Aborted event) d t = t
  hears_done (how.Unexpected given) d t = absurd d
  hears_done how.SourceFault d t = absurd d
  hears_done how.Stopped d t = absurd d
