-- How a transition of a run is closed, and how the run ends in its midst.
use Rattle.std.proofs.Common.{arith, ◌≡◌, ◌⊎◌, inl, inr, ℕ, Bool, true, false, not, List, [], ◌∷◌, ◌++◌, append-nil, refl, sym, ap, ◌∙◌, subst}
use Rattle.std.specs.Prelude.{Option, Some, None}
use Rattle.std.specs.List.{flat_map}
use Rattle.cluster_types.specs.declared.run.RunLine.{RunLine}
use Rattle.cluster_types.specs.declared.journal.Answer.{Answer}
use Rattle.cluster_types.specs.declared.journal.Event.{Event}
use Rattle.cluster_types.specs.declared.journal.Journal.{Journal}
use Rattle.cluster_types.specs.declared.journal.Promotion.{Promotion}
use Rattle.cluster_types.specs.declared.placement.Placed.{Placed}
use Rattle.cluster_types.specs.AnswersThatApply.{applies_after}
use Rattle.cluster_types.specs.Runs.{amid, RunsOn, goes, completes, aborts, journal_at}
use Rattle.cluster_types.specs.Safety.{IsAtRest}
use Rattle.cluster_types.specs.Steps as steps
use Rattle.cluster_types.specs.Steps.{Transition, StepsOn, HasEnded, IsWaiting, in_flight_by_number, has_aborted, journal, count_from_outside}
use Rattle.cluster_types.specs.Texts.{event_lines}
use Rattle.graph_exec.specs.KnownJournals.{KnownJournalOf}
use Rattle.graph_exec.specs.declared.transition.ends.WatchedEnd.{WatchedEnd}
use Rattle.graph_exec.specs.declared.transition.ends.WatchedEnd.TheVariants as how
use Rattle.graph_exec.specs.declared.transition.watcher.Heard.TheVariants as heard
use Rattle.graph_exec.specs.Executors.{ExecutorOf, Went, transition_in}
use Rattle.graph_exec.specs.Inner.ExecutorFields.{running_journal}
use Rattle.graph_exec.specs.WatcherLines.{closing_line}
use Rattle.graph_exec.specs.Promises.{EndsWell, IsGraphPlanned}
use Rattle.graph_exec.specs.Transitions.{EndsAs, HasSaidAll, IsCutBy, WentAsSaid, WentBeforeSaid, WentByEnd}
use Rattle.graph_exec.specs.WatchedTransitions.{IsWatcherCutOff, IsWatcherCutOffAsking, AreLinesTold, IsToldUpTo, heard_at}
use Rattle.graph_exec.proofs.Beginning.{found_so}
use Rattle.graph_exec.proofs.Said.{taken_none}
use Rattle.run_safety.proofs.SoFar.{runs_once}
use Rattle.graph_exec.specs.Replays.{Setting, setting, sight}
use Rattle.graph_exec.specs.Inner.Turns.{HasComeTo, CameTo, EndsBroken, RunEndsCut, EndsStopped, EndsStoppedAsking, closed_at, left_of}
use Rattle.graph_exec.proofs.Joined.{came_on, came_step}
use Rattle.graph_exec.proofs.Steps.{came_carried, part_runs, part_said, part_told}

abbrev left_with : List Event → ExecutorOf → Journal
left_with since r = record { events = r.planned_at ++ since; promotions = r.promotions }

abbrev with_events : List Promotion → List Event → Journal
with_events promotions es = record { events = es; promotions = promotions }

at_closed : (k : ℕ) (complete : Bool) (es : List Event) → es ≡ journal_at (closed_at k complete es)
at_closed k true es = refl
at_closed k false es = refl

-- the transition has ended by itself: complete, or aborted
abbrev pub IsClosed : WatchedEnd → Bool → Type 0
IsClosed how.Complete complete = complete ≡ true
IsClosed (how.Aborted event) complete = complete ≡ false
IsClosed _ complete = ⊥

-- and so it went on to its end, all of which was told
pub record HasClosed (whole steady : Bool) (r now : ExecutorOf) (rest left : Option (List Answer)) (over_now : Bool) (First : List RunLine → Type 0) (end : WatchedEnd)
    (complete : Bool) : Type 0 where
  pub went : Went whole r now rest left
  pub told : AreLinesTold First r now
  pub said : steady ≡ true → over_now ≡ false → WentAsSaid r now rest left
  pub ended : HasEnded (transition_in now) now.since
  pub aborted : has_aborted (transition_in now) now.since ≡ not complete
  pub rests : (placed : Placed) → IsGraphPlanned now placed → IsAtRest (now.planned_at ++ now.since)
  pub heard : heard_at end ≡ heard.Go

pub has_closed : (whole steady : Bool) (r now : ExecutorOf) (rest left : Option (List Answer)) (over over_now : Bool) (First : List RunLine → Type 0)
    (Stopped : List RunLine → Option RunLine → Type 0) (end : WatchedEnd) (complete : Bool) → IsClosed end complete → WentByEnd whole r now rest left end
    → IsToldUpTo First Stopped whole r now rest left (heard_at end) → (steady ≡ true → HasSaidAll r now rest left over over_now end) → EndsAs now end → EndsWell now end
    → HasClosed whole steady r now rest left over_now First end complete
has_closed whole steady r now rest left over over_now First Stopped how.Complete complete is went told said ends well = record {
  went = went;
  told = told;
  said = λ always open_still. (said always).to_end open_still tt;
  ended = ends.ended;
  aborted = ends.unaborted ∙ ap not (sym is);
  rests = λ placed planned. (well placed planned).0;
  heard = refl;
}
has_closed whole steady r now rest left over over_now First Stopped (how.Aborted event) complete is went told said ends well = record {
  went = went;
  told = told;
  said = λ always open_still. (said always).to_end open_still tt;
  ended = ends.ended;
  aborted = found_so (steps.aborts now.cluster) now.since (Some event) ends.first_is ∙ ap not (sym is);
  rests = well;
  heard = refl;
}
has_closed whole steady r now rest left over over_now First Stopped (how.Unexpected given) complete is went told said ends well = absurd is
has_closed whole steady r now rest left over over_now First Stopped how.SourceFault complete is went told said ends well = absurd is
has_closed whole steady r now rest left over over_now First Stopped how.Stopped complete is went told said ends well = absurd is

module _ (whole steady : Bool) (k : ℕ) (r now : ExecutorOf) (fresh : r.since ≡ []) (rest left : Option (List Answer)) (over over_now : Bool) where
  abbrev here_set : Setting
  here_set = setting r.cluster r.promotions whole steady

  -- the line that closes it is a step of the run
  closed_step : (complete : Bool) → transition_in now ≡ transition_in r → HasEnded (transition_in now) now.since → has_aborted (transition_in now) now.since ≡ not complete
      → (w : Bool) (xs : Option (List Answer))
      → RunsOn r.cluster r.promotions w (amid k (transition_in r) now.since) xs (closing_line k complete ∷ []) (closed_at k complete (journal (transition_in r) now.since)) xs
  closed_step true same ended aborted w xs =
      completes k (transition_in r) now.since xs (subst (λ (t : Transition). HasEnded t now.since) same ended)
      (subst (λ (t : Transition). has_aborted t now.since ≡ false) same aborted)
  closed_step false same ended aborted w xs =
      aborts k (transition_in r) now.since xs (subst (λ (t : Transition). HasEnded t now.since) same ended)
      (subst (λ (t : Transition). has_aborted t now.since ≡ true) same aborted)

  module _ (First : List RunLine → Type 0) (end : WatchedEnd) (complete : Bool) (h : HasClosed whole steady r now rest left over_now First end complete) where
    step : (w : Bool) (xs : Option (List Answer))
        → RunsOn r.cluster r.promotions w (amid k (transition_in r) now.since) xs (closing_line k complete ∷ []) (closed_at k complete (journal (transition_in r) now.since)) xs
    step = closed_step complete (ap transition_in h.went.same) h.ended h.aborted

    pub closes : (Then All : List RunLine → Type 0) → ((lines more : List RunLine) → First lines → Then more → All (lines ++ more)) → Then (closing_line k complete ∷ [])
        → (j : KnownJournalOf) → j ≡ running_journal now
        → CameTo All here_set (amid k (transition_in r) []) (sight rest over) (sight left over_now) (closed_at k complete) j
    closes Then All join closed j is =
        let events : j.events ≡ journal (transition_in r) now.since = ap (λ (x : KnownJournalOf). x.events) is ∙ ap (λ (x : ExecutorOf). x.planned_at ++ now.since) h.went.same in
        let whole_way = came_on here_set First Then All join (amid k (transition_in r) []) (amid k (transition_in r) now.since) (sight rest over) (sight left over_now) (sight left over_now)
        (came_carried here_set k r now fresh First rest left over over_now h.went h.told h.said) (closed_at k complete (journal (transition_in r) now.since)) (λ always over_still. over_still)
        (came_step here_set Then (amid k (transition_in r) now.since) (closed_at k complete (journal (transition_in r) now.since)) (sight left over_now) (sight left over_now)
        (closing_line k complete ∷ []) (step whole left) closed
        (λ always open_still. record {
          answers = [];
          runs = λ ys. runs_once r.cluster r.promotions false _ _ (Some ys) (Some ys) _ (step false (Some ys));
          taken = taken_none left;
        })) in
        record {
          cluster_stays = ap (λ (x : KnownJournalOf). x.cluster) is ∙ ap (λ (x : ExecutorOf). x.cluster) h.went.same;
          promotions_stay = ap (λ (x : KnownJournalOf). x.promotions) is ∙ ap (λ (x : ExecutorOf). x.promotions) h.went.same;
          came = subst (λ (es : List Event). HasComeTo All here_set (amid k (transition_in r) []) (sight rest over) (sight left over_now) (closed_at k complete es)) (sym events) whole_way;
        }

    -- the watcher stops at that line
    pub stops_closing : (All : List RunLine → Type 0) (StopThen Stopped : List RunLine → Option RunLine → Type 0)
        → ((lines more : List RunLine) (at : Option RunLine) → First lines → StopThen more at → Stopped (lines ++ more) at) → StopThen [] (Some (closing_line k complete))
        → (j : Journal) → j ≡ left_of now → EndsStopped All here_set (amid k (transition_in r) []) (sight rest over) (sight left over_now) k Stopped j
    stops_closing All StopThen Stopped stop stopped j is = record {
      before = amid k (transition_in r) now.since;
      next = closed_at k complete (journal (transition_in r) now.since);
      middle = left;
      lines = flat_map event_lines now.since;
      call = closing_line k complete ∷ [];
      runs = part_runs r.cluster r.promotions whole k (transition_in r) r.since now.since rest left fresh h.went.steps;
      step = step whole left;
      told = record {
        before = [];
        at = closing_line k complete;
        behind = [];
        parts = refl;
        stopped = stop (flat_map event_lines now.since) [] (Some (closing_line k complete)) (part_told here_set k r now fresh First h.told) stopped;
      };
      leaves = is ∙ ap (left_with now.since) h.went.same ∙ ap (with_events r.promotions) (at_closed k complete (journal (transition_in r) now.since));
      few = omega arith;
    }

  -- the source failed
  pub broken : Went whole r now rest left → (First : List RunLine → Type 0) → AreLinesTold First r now → IsWaiting (transition_in now) now.since
      → (steady ≡ true → WentAsSaid r now rest left) → (steady ≡ true → over ≡ false) → (j : Journal) → j ≡ left_of now
      → EndsBroken First here_set (amid k (transition_in r) []) (sight rest over) (sight left over_now) k j
  broken went First told waiting said not_over j is = record {
    last = amid k (transition_in r) now.since;
    lines = flat_map event_lines now.since;
    runs = part_runs r.cluster r.promotions whole k (transition_in r) r.since now.since rest left fresh went.steps;
    told = part_told here_set k r now fresh First told;
    asking = subst (λ (t : Transition). IsWaiting t now.since) (ap transition_in went.same) waiting;
    said = λ always. part_said here_set k r now fresh rest left (said always);
    not_over = not_over;
    leaves = is ∙ ap (left_with now.since) went.same;
    few = omega arith;
  }

  -- an answer came that doesn't apply
  pub cut : (Follows : List RunLine → Type 0) (given : Answer) → WentBeforeSaid whole r now rest left given → AreLinesTold Follows r now → IsCutBy now given → (j : Journal)
      → j ≡ left_of now → RunEndsCut Follows here_set (amid k (transition_in r) []) (sight rest over) (sight left over_now) k j given
  cut Follows given g told e j is =
      let same : transition_in now ≡ transition_in r = ap transition_in g.went.same in
      let refused : applies_after r.cluster (journal (transition_in r) now.since) (in_flight_by_number (transition_in r) now.since) (count_from_outside (transition_in r) now.since) given ≡ false
      = subst (λ (t : Transition). applies_after t.cluster (journal t now.since) (in_flight_by_number t now.since) (count_from_outside t now.since) given ≡ false) same e.refused in
      record {
        last = amid k (transition_in r) now.since;
        unread = g.before;
        lines = flat_map event_lines now.since;
        runs = part_runs r.cluster r.promotions whole k (transition_in r) r.since now.since rest g.before fresh g.went.steps;
        told = part_told here_set k r now fresh Follows told;
        cut = record {
          asking = subst (λ (t : Transition). IsWaiting t now.since) same e.waiting;
          said = g.said;
          refused = λ applies. let f : ⊥ = cc in f;
        };
        leaves = is ∙ ap (left_with now.since) g.went.same;
        few = omega arith;
      }

  -- the watcher stopped at a step
  stops_amid : (All : List RunLine → Type 0) (Stopped : List RunLine → Option RunLine → Type 0) → IsWatcherCutOff Stopped whole r now rest left → (j : Journal) → j ≡ left_of now
      → EndsStopped All here_set (amid k (transition_in r) []) (sight rest over) (sight left over_now) k Stopped j
  stops_amid All Stopped b j is =
      let same : transition_in b.at ≡ transition_in r = ap transition_in b.went.same in
      let since : b.at.since ≡ b.before = rw fresh at b.happened in
      record {
        before = amid k (transition_in r) b.at.since;
        next = amid k (transition_in r) (b.at.since ++ b.events);
        middle = b.middle;
        lines = flat_map event_lines b.at.since;
        call = flat_map event_lines b.events;
        runs = part_runs r.cluster r.promotions whole k (transition_in r) r.since b.at.since rest b.middle fresh b.went.steps;
        step = goes k (transition_in r) b.at.since b.events b.middle left (subst (λ (t : Transition). StepsOn t whole b.at.since b.middle b.events left) same b.step);
        told = record {
          before = [];
          at = b.line;
          behind = [];
          parts = b.line_is;
          stopped = subst (λ (lines : List RunLine). Stopped lines (Some b.line)) (ap (flat_map event_lines) (sym since) ∙ sym (append-nil (flat_map event_lines b.at.since))) b.stopped;
        };
        leaves = is ∙ ap left_of b.last ∙ ap (left_with (b.at.since ++ b.events)) b.went.same;
        few = omega arith;
      }

  -- or as the source was about to be asked
  stops_asking : (All : List RunLine → Type 0) (Stopped : List RunLine → Option RunLine → Type 0) → Went whole r now rest left → IsWatcherCutOffAsking Stopped r now → (j : Journal)
      → j ≡ left_of now → EndsStoppedAsking All here_set (amid k (transition_in r) []) (sight rest over) (sight left over_now) k Stopped j
  stops_asking All Stopped went b j is = record {
    last = amid k (transition_in r) now.since;
    lines = flat_map event_lines now.since;
    runs = part_runs r.cluster r.promotions whole k (transition_in r) r.since now.since rest left fresh went.steps;
    told = part_told here_set k r now fresh (λ lines. Stopped lines None) b.told;
    asking = subst (λ (t : Transition). IsWaiting t now.since) (ap transition_in went.same) b.waiting;
    leaves = is ∙ ap (left_with now.since) went.same;
    few = omega arith;
  }

  pub stops_either : (All : List RunLine → Type 0) (Stopped : List RunLine → Option RunLine → Type 0) → Went whole r now rest left
      → IsWatcherCutOff Stopped whole r now rest left ⊎ IsWatcherCutOffAsking Stopped r now → (j : Journal) → j ≡ left_of now
      → EndsStopped All here_set (amid k (transition_in r) []) (sight rest over) (sight left over_now) k Stopped j
      ⊎ EndsStoppedAsking All here_set (amid k (transition_in r) []) (sight rest over) (sight left over_now) k Stopped j
  stops_either All Stopped went (inl b) j is = inl (stops_amid All Stopped b j is)
  stops_either All Stopped went (inr b) j is = inr (stops_asking All Stopped went b j is)
