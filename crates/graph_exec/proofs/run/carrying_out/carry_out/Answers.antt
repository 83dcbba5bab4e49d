use Rattle.std.proofs.Common.{◌≡◌, List, ◌++◌, ap, inl, not, refl, ◌∙◌}
use Rattle.graph_exec.specs.declared.transition.watcher.Heard.TheVariants as heard
use Rattle.cluster_types.specs.declared.journal.Event.{Event}
use Rattle.graph_exec.specs.KnownJournals.{KnownJournalOf}
use Rattle.graph_exec.specs.Questions.{AskedBeside}
use Rattle.graph_exec.specs.Executors.{ExecutorOf}
use Rattle.graph_exec.proofs.Closings.{HasClosed, broken, closes, cut, has_closed, stops_closing, stops_either}
use Rattle.graph_exec.proofs.Lasts.{watcher_then, watcher_told}
use Rattle.graph_exec.proofs.Questions.{asks_behind}
use Rattle.graph_exec.proofs.Rests.{accords_first, accords_last, leaves_rest, stays_there}
use Rattle.graph_exec.proofs.Shown.{shown_closed, shown_closing, shown_first, shown_left}
use Rattle.graph_exec.proofs.Whole.{events_in}
use Rattle.graph_exec.proofs.run.carrying_out.carry_out.Given.{Over}
use Rattle.graph_exec.proofs.run.carrying_out.carry_out.Goals.{After-closed, After-run_watched, in-Complete, in-Aborted}
use Rattle.graph_exec.proofs.run.carrying_out.carry_out.Goals as goal

-- a source that agreed with the journal agrees with the one that is left
agrees_left : (g : Over) (c : After-run_watched g) → c.run_watched.new.executor.cluster ≡ c.args.executor.cluster
    → g.S.Outcomes.agrees c.args.outcomes.now c.args.executor.cluster c.args.executor.planned_at 0 → (es : List Event)
    → es ≡ c.run_watched.new.executor.planned_at ++ c.run_watched.new.executor.since → g.S.Outcomes.agrees c.run_watched.new.outcomes c.args.executor.cluster es 0
agrees_left g c same h es is =
    accords_last (g.S.Outcomes.agrees c.run_watched.new.outcomes) (λ d xs k a. g.met.S.Outcomes.anew c.run_watched.new.outcomes d xs k a) c.args.executor c.run_watched.new.executor
    same (c.run_watched.ensures.agrees (accords_first _ _ c.requires.planned.planned.at_rest.1 c.requires.fresh h)) es is

-- it has ended by itself

closed_in : (g : Over) (c : After-closed g) → HasClosed (g.S.Outcomes.whole c.args.outcomes.now) (g.S.Outcomes.steady c.args.outcomes.now) c.args.executor c.run_watched.new.executor
    (g.S.Outcomes.rest c.args.outcomes.now) (g.S.Outcomes.rest c.run_watched.new.outcomes) (g.S.Outcomes.over c.run_watched.new.outcomes)
    (g.V.Watcher.follows c.args.watcher.now c.run_watched.new.watcher) c.run_watched.result c.match-run_watched.complete
closed_in g c =
    has_closed _ _ _ _ _ _ _ _ _ _ _ _ (elim c.match-run_watched.branch [
      | in-Complete w ↦ rw w.in-Complete.is w.complete-is
      | in-Aborted w ↦ rw w.in-Aborted.is w.complete-is
    ])
    c.run_watched.ensures.steps c.run_watched.ensures.told c.run_watched.ensures.said c.run_watched.ensures.end c.run_watched.ensures.well

pub returns-in-Go-clause-closes : goal.returns-in-Go-clause-closes
returns-in-Go-clause-closes g c =
    closes _ _ _ _ _ c.requires.fresh _ _ _ _ _ _ _ (closed_in g (goal.at.returns-in-Go-clause-closes g c).After-closed) _ _ (g.met.V.Watcher.from_before _ _ _) (c.in-Go.ensures.follows refl) _ c.into_parts-journal.ensures.journal

pub returns-in-Go-clause-at_rest : goal.returns-in-Go-clause-at_rest
returns-in-Go-clause-at_rest g c =
    let h = closed_in g (goal.at.returns-in-Go-clause-at_rest g c).After-closed in
    leaves_rest _ _ _ _ _ h.went c.requires.planned h.rests _ c.into_parts-journal.ensures.journal

pub returns-in-Go-clause-graph : goal.returns-in-Go-clause-graph
returns-in-Go-clause-graph g c = c.into_parts-journal.ensures.graph ∙ ap (λ (r : ExecutorOf). r.graph) (closed_in g (goal.at.returns-in-Go-clause-graph g c).After-closed).went.same

pub returns-in-Go-clause-agrees : goal.returns-in-Go-clause-agrees
returns-in-Go-clause-agrees g c h =
    agrees_left g (goal.at.returns-in-Go-clause-agrees g c).After-run_watched (stays_there _ _ _ _ _ (closed_in g (goal.at.returns-in-Go-clause-agrees g c).After-closed).went) h _ (ap (λ (x : KnownJournalOf). x.events) c.into_parts-journal.ensures.journal)

pub returns-in-Go-clause-answer : goal.returns-in-Go-clause-answer
returns-in-Go-clause-answer g c aborted = c.run_watched.ensures.aborted.given (rw c.requires.fresh refl) ((closed_in g (goal.at.returns-in-Go-clause-answer g c).After-closed).aborted ∙ ap not aborted)

pub returns-in-Stop-clause-ends : goal.returns-in-Stop-clause-ends
returns-in-Stop-clause-ends g c =
    inl (stops_closing _ _ _ _ _ c.requires.fresh _ _ _ _ _ _ _ (closed_in g (goal.at.returns-in-Stop-clause-ends g c).After-closed) _ _ _ (g.met.V.Watcher.stopped_later _ _ _) (c.in-Stop.ensures.stopped refl) _ c.into_journal-in-Stop.ensures)

pub returns-in-Stop-clause-agrees_at_end : goal.returns-in-Stop-clause-agrees_at_end
returns-in-Stop-clause-agrees_at_end g c h =
    agrees_left g (goal.at.returns-in-Stop-clause-agrees_at_end g c).After-run_watched (stays_there _ _ _ _ _ (closed_in g (goal.at.returns-in-Stop-clause-agrees_at_end g c).After-closed).went) h _ (ap events_in c.into_journal-in-Stop.ensures)

-- an answer came that doesn't apply

pub returns-in-Unexpected-clause-ends : goal.returns-in-Unexpected-clause-ends
returns-in-Unexpected-clause-ends g c =
    cut _ _ _ _ _ c.requires.fresh _ _ _ _ _ c.in-Unexpected.answer c.in-Unexpected.ensures.steps c.in-Unexpected.ensures.told c.in-Unexpected.ensures.end _
    c.into_journal.ensures

pub returns-in-Unexpected-clause-agrees_at_end : goal.returns-in-Unexpected-clause-agrees_at_end
returns-in-Unexpected-clause-agrees_at_end g c h =
    agrees_left g (goal.at.returns-in-Unexpected-clause-agrees_at_end g c).After-run_watched (stays_there _ _ _ _ _ c.in-Unexpected.ensures.steps.went) h _ (ap events_in c.into_journal.ensures)

-- the source failed

pub returns-in-SourceFault-clause-ends : goal.returns-in-SourceFault-clause-ends
returns-in-SourceFault-clause-ends g c =
    broken _ _ _ _ _ c.requires.fresh _ _ _ _ c.in-SourceFault.ensures.steps _ c.in-SourceFault.ensures.told c.in-SourceFault.ensures.end
    (λ steady. (c.in-SourceFault.ensures.said steady).failed refl) (λ steady. (c.in-SourceFault.ensures.said steady).not_over refl) _ c.into_journal-in-SourceFault.ensures

pub returns-in-SourceFault-clause-agrees_at_end : goal.returns-in-SourceFault-clause-agrees_at_end
returns-in-SourceFault-clause-agrees_at_end g c h =
    agrees_left g (goal.at.returns-in-SourceFault-clause-agrees_at_end g c).After-run_watched (stays_there _ _ _ _ _ c.in-SourceFault.ensures.steps) h _ (ap events_in c.into_journal-in-SourceFault.ensures)

-- the watcher stopped

pub returns-in-Stopped-clause-ends : goal.returns-in-Stopped-clause-ends
returns-in-Stopped-clause-ends g c = stops_either _ _ _ _ _ c.requires.fresh _ _ _ _ _ _ c.in-Stopped.ensures.steps c.in-Stopped.ensures.told _ c.into_journal-in-Stopped.ensures

pub returns-in-Stopped-clause-agrees_at_end : goal.returns-in-Stopped-clause-agrees_at_end
returns-in-Stopped-clause-agrees_at_end g c h =
    agrees_left g (goal.at.returns-in-Stopped-clause-agrees_at_end g c).After-run_watched (stays_there _ _ _ _ _ c.in-Stopped.ensures.steps) h _ (ap events_in c.into_journal-in-Stopped.ensures)

-- how often the source was asked

asks_closed : (g : Over) (c : After-closed g)
    → AskedBeside 0 (g.S.Outcomes.asked c.args.outcomes.now) (g.S.Outcomes.asked c.run_watched.new.outcomes) c.args.executor.since c.run_watched.new.executor.since
asks_closed g c = elim c.match-run_watched.branch [
  | in-Complete w ↦ rw w.in-Complete.is at c.run_watched.ensures.questions
  | in-Aborted w ↦ rw w.in-Aborted.is at c.run_watched.ensures.questions
]

planned_still : (first last : ExecutorOf) → last ≡ record {
  cluster = first.cluster;
  graph = first.graph;
  planned_at = first.planned_at;
  since = last.since;
  promotions = first.promotions;
} → last.planned_at ≡ first.planned_at
planned_still first last same = ap (λ (r : ExecutorOf). r.planned_at) same

pub returns-in-Go-clause-questions : goal.returns-in-Go-clause-questions
returns-in-Go-clause-questions g c =
    let closed = (goal.at.returns-in-Go-clause-questions g c).After-closed in
    asks_behind c.args.executor c.run_watched.new.executor (planned_still c.args.executor c.run_watched.new.executor (closed_in g closed).went.same) c.requires.fresh _ _ _ (asks_closed g closed) _
    (ap (λ (x : KnownJournalOf). x.events) c.into_parts-journal.ensures.journal)

pub returns-in-Stop-clause-questions_at_end : goal.returns-in-Stop-clause-questions_at_end
returns-in-Stop-clause-questions_at_end g c =
    let closed = (goal.at.returns-in-Stop-clause-questions_at_end g c).After-closed in
    asks_behind c.args.executor c.run_watched.new.executor (planned_still c.args.executor c.run_watched.new.executor (closed_in g closed).went.same) c.requires.fresh _ _ _ (asks_closed g closed) _
    (ap events_in c.into_journal-in-Stop.ensures)

pub returns-in-Unexpected-clause-questions_at_end : goal.returns-in-Unexpected-clause-questions_at_end
returns-in-Unexpected-clause-questions_at_end g c =
    let made = c.in-Unexpected.ensures in
    asks_behind c.args.executor c.run_watched.new.executor (planned_still c.args.executor c.run_watched.new.executor made.steps.went.same) c.requires.fresh _ _ _ made.questions _ (ap events_in c.into_journal.ensures)

pub returns-in-SourceFault-clause-questions_at_end : goal.returns-in-SourceFault-clause-questions_at_end
returns-in-SourceFault-clause-questions_at_end g c =
    let made = c.in-SourceFault.ensures in
    asks_behind c.args.executor c.run_watched.new.executor (planned_still c.args.executor c.run_watched.new.executor made.steps.same) c.requires.fresh _ _ _ made.questions _ (ap events_in c.into_journal-in-SourceFault.ensures)

pub returns-in-Stopped-clause-questions_at_end : goal.returns-in-Stopped-clause-questions_at_end
returns-in-Stopped-clause-questions_at_end g c =
    let made = c.in-Stopped.ensures in
    asks_behind c.args.executor c.run_watched.new.executor (planned_still c.args.executor c.run_watched.new.executor made.steps.same) c.requires.fresh _ _ _ made.questions _ (ap events_in c.into_journal-in-Stopped.ensures)

-- the watcher has come on through the transition and its end

pub returns-in-Go-clause-watcher : goal.returns-in-Go-clause-watcher
returns-in-Go-clause-watcher g c =
    let told = c.in-Go.ensures in
    watcher_then g.V.Watcher _ _ _ _ (rw (closed_in g (goal.at.returns-in-Go-clause-watcher g c).After-closed).heard at c.run_watched.ensures.watcher) (watcher_told g.V.Watcher _ _ heard.Go told.same_lines told.count told.cause)

pub returns-in-Stop-clause-watcher : goal.returns-in-Stop-clause-watcher
returns-in-Stop-clause-watcher g c =
    let told = c.in-Stop.ensures in
    watcher_then g.V.Watcher _ _ _ _ (rw (closed_in g (goal.at.returns-in-Stop-clause-watcher g c).After-closed).heard at c.run_watched.ensures.watcher) (watcher_told g.V.Watcher _ _ heard.Stop told.same_lines told.count told.cause)

-- what the watcher has been shown

pub returns-in-Go-clause-shown : goal.returns-in-Go-clause-shown
returns-in-Go-clause-shown g c h =
    let closed = closed_in g (goal.at.returns-in-Go-clause-shown g c).After-closed in
    let all = (rw closed.heard at c.run_watched.ensures.shown) (shown_first (g.V.Watcher.shown c.args.watcher.now heard.Go) c.args.executor c.requires.planned.planned.at_rest.1 c.requires.fresh h) in
    shown_closed c.args.executor c.run_watched.new.executor closed.went.same _ (ap (λ (x : KnownJournalOf). x.events) c.into_parts-journal.ensures.journal)
    (g.V.Watcher.shown c.closed.new.self heard.Go) (c.in-Go.ensures.shown _ _ _ _ all.shown_now)

pub returns-in-Stop-clause-shown_at_end : goal.returns-in-Stop-clause-shown_at_end
returns-in-Stop-clause-shown_at_end g c h =
    let closed = closed_in g (goal.at.returns-in-Stop-clause-shown_at_end g c).After-closed in
    let all = (rw closed.heard at c.run_watched.ensures.shown) (shown_first (g.V.Watcher.shown c.args.watcher.now heard.Go) c.args.executor c.requires.planned.planned.at_rest.1 c.requires.fresh h) in
    shown_closing c.args.executor c.run_watched.new.executor closed.went.same _ (ap events_in c.into_journal-in-Stop.ensures) (g.V.Watcher.shown c.closed.new.self) heard.Stop
    (c.in-Stop.ensures.shown _ _ _ _ all.shown_now)

pub returns-in-Stopped-clause-shown_at_end : goal.returns-in-Stopped-clause-shown_at_end
returns-in-Stopped-clause-shown_at_end g c h =
    let all = c.in-Stopped.ensures.shown (shown_first (g.V.Watcher.shown c.args.watcher.now heard.Go) c.args.executor c.requires.planned.planned.at_rest.1 c.requires.fresh h) in
    shown_left c.args.executor c.run_watched.new.executor c.in-Stopped.ensures.steps.same _ (ap events_in c.into_journal-in-Stopped.ensures) (g.V.Watcher.shown c.run_watched.new.watcher) heard.Stop all.shown_now

pub returns-in-Unexpected-clause-shown_at_end : goal.returns-in-Unexpected-clause-shown_at_end
returns-in-Unexpected-clause-shown_at_end g c h =
    let all = c.in-Unexpected.ensures.shown (shown_first (g.V.Watcher.shown c.args.watcher.now heard.Go) c.args.executor c.requires.planned.planned.at_rest.1 c.requires.fresh h) in
    shown_left c.args.executor c.run_watched.new.executor c.in-Unexpected.ensures.steps.went.same _ (ap events_in c.into_journal.ensures) (g.V.Watcher.shown c.run_watched.new.watcher) heard.Go all.shown_now

pub returns-in-SourceFault-clause-shown_at_end : goal.returns-in-SourceFault-clause-shown_at_end
returns-in-SourceFault-clause-shown_at_end g c h =
    let all = c.in-SourceFault.ensures.shown (shown_first (g.V.Watcher.shown c.args.watcher.now heard.Go) c.args.executor c.requires.planned.planned.at_rest.1 c.requires.fresh h) in
    shown_left c.args.executor c.run_watched.new.executor c.in-SourceFault.ensures.steps.same _ (ap events_in c.into_journal-in-SourceFault.ensures) (g.V.Watcher.shown c.run_watched.new.watcher) heard.Go all.shown_now
