use Rattle.std.proofs.Common.{None, [], inl, inr, refl}
use Rattle.graph_exec.specs.declared.transition.watcher.Heard.TheVariants as heard
use Rattle.graph_exec.proofs.Entered.{asks_nothing}
use Rattle.graph_exec.proofs.Lasts.{source_same, watcher_then, watcher_told}
use Rattle.graph_exec.proofs.LastsNext.{watcher_unanswered}
use Rattle.graph_exec.proofs.Questions.{asks_answered, asks_unanswered}
use Rattle.graph_exec.proofs.Quiet.{ends_unanswered, is_stopped, is_stopped_asking, is_taken}
use Rattle.graph_exec.proofs.Shown.{shown_answered, shown_unanswered}
use Rattle.graph_exec.proofs.run.idling.take_idle.Goals as goal

-- the watcher stops as the source is about to be asked

pub returns-in-Stop-clause-ends : goal.returns-in-Stop-clause-ends
returns-in-Stop-clause-ends g c =
    inr (is_stopped_asking _ _ _ c.args.journal _ _ _ _ (g.V.Watcher.follows c.args.watcher.now c.wait_for.new.watcher) refl _ (c.in-Stop.ensures.stopped refl) _ c.into_journal.ensures)

pub returns-in-Stop-clause-agrees_at_end : goal.returns-in-Stop-clause-agrees_at_end
returns-in-Stop-clause-agrees_at_end g c h = rw c.into_journal.ensures h

pub returns-in-Stop-clause-source : goal.returns-in-Stop-clause-source
returns-in-Stop-clause-source g c = source_same g.S.Outcomes g.met.S.Outcomes.from_itself _

pub returns-in-Stop-clause-shown_at_end : goal.returns-in-Stop-clause-shown_at_end
returns-in-Stop-clause-shown_at_end g c h = rw c.into_journal.ensures (record { plan = None; shown_last = c.in-Stop.ensures.shown _ h })

-- an answer is entered

pub returns-in-Go-clause-goes_on : goal.returns-in-Go-clause-goes_on
returns-in-Go-clause-goes_on g c =
    is_taken _ _ _ c.args.journal _ _ _ _ _ c.in-Ok.taken.answer c.in-Ok.ensures.answered.said _ c.in-Ok.ensures.answered.took
    (g.met.V.Watcher.from_before _ _ _ [] _ (c.in_default.ensures.follows refl) (c.in-Go.ensures.follows refl))

pub returns-in-Stop-taken-clause-ends : goal.returns-in-Stop-taken-clause-ends
returns-in-Stop-taken-clause-ends g c =
    inl (is_stopped _ _ _ c.args.journal _ _ _ _ (g.V.Watcher.follows c.args.watcher.now c.taken.new.self) c.in-Ok.taken.answer c.in-Ok.ensures.answered.said _ c.in-Ok.ensures.answered.took _
    (g.met.V.Watcher.stopped_later _ _ _ [] _ _ (c.in_default.ensures.follows refl) (c.in-Stop-taken.ensures.stopped refl)) _ c.into_journal-in-Stop-taken.ensures)

pub returns-in-Stop-taken-clause-agrees_at_end : goal.returns-in-Stop-taken-clause-agrees_at_end
returns-in-Stop-taken-clause-agrees_at_end g c h = rw c.into_journal-in-Stop-taken.ensures (c.in-Ok.ensures.agrees h)

pub returns-in-Go-clause-watcher : goal.returns-in-Go-clause-watcher
returns-in-Go-clause-watcher g c =
    let told = c.in-Go.ensures in
    watcher_then g.V.Watcher _ _ _ _ c.in_default.ensures.watcher (watcher_told g.V.Watcher _ _ heard.Go told.same_lines told.count told.cause)

pub returns-in-Stop-taken-clause-watcher : goal.returns-in-Stop-taken-clause-watcher
returns-in-Stop-taken-clause-watcher g c =
    let told = c.in-Stop-taken.ensures in
    watcher_then g.V.Watcher _ _ _ _ c.in_default.ensures.watcher (watcher_told g.V.Watcher _ _ heard.Stop told.same_lines told.count told.cause)

-- none came that applies

pub returns-in-Err-clause-ends : goal.returns-in-Err-clause-ends
returns-in-Err-clause-ends g c = ends_unanswered _ _ _ c.args.journal _ _ _ _ _ (c.in_default.ensures.follows refl) _ c.in-Err.end c.in-Err.ensures.unanswered

pub returns-in-Err-clause-watcher : goal.returns-in-Err-clause-watcher
returns-in-Err-clause-watcher g c =
    watcher_unanswered g.V.Watcher _ _ _ c.args.journal _ _ _ c.in-Err.end c.in-Err.ensures.unanswered c.in_default.ensures.watcher

-- how often the source was asked

pub returns-in-Stop-clause-questions_at_end : goal.returns-in-Stop-clause-questions_at_end
returns-in-Stop-clause-questions_at_end g c = rw c.into_journal.ensures (asks_nothing _ _)

pub returns-in-Go-clause-questions : goal.returns-in-Go-clause-questions
returns-in-Go-clause-questions g c = asks_answered c.args.journal _ _ c.in-Ok.ensures.asked c.in-Ok.taken.answer _ c.in-Ok.ensures.answered.took

pub returns-in-Stop-taken-clause-questions_at_end : goal.returns-in-Stop-taken-clause-questions_at_end
returns-in-Stop-taken-clause-questions_at_end g c =
    rw c.into_journal-in-Stop-taken.ensures (asks_answered c.args.journal _ _ c.in-Ok.ensures.asked c.in-Ok.taken.answer _ c.in-Ok.ensures.answered.took)

pub returns-in-Err-clause-questions_at_end : goal.returns-in-Err-clause-questions_at_end
returns-in-Err-clause-questions_at_end g c = asks_unanswered c.args.journal _ _ c.in-Err.ensures.asked _ _ _ _ c.in-Err.end c.in-Err.ensures.unanswered

-- what the watcher has been shown

pub returns-in-Go-clause-shown : goal.returns-in-Go-clause-shown
returns-in-Go-clause-shown g c h =
    shown_answered (g.V.Watcher.shown c.wait_for.new.watcher heard.Go) (g.V.Watcher.shown c.taken.new.self heard.Go) c.args.journal _ c.in-Ok.taken.answer c.in-Ok.ensures.answered.took c.requires.resting c.in-Go.ensures.shown (c.in_default.ensures.shown _ h)

pub returns-in-Stop-taken-clause-shown_at_end : goal.returns-in-Stop-taken-clause-shown_at_end
returns-in-Stop-taken-clause-shown_at_end g c h =
    rw c.into_journal-in-Stop-taken.ensures (record {
      plan = None;
      shown_last = shown_answered (g.V.Watcher.shown c.wait_for.new.watcher heard.Go) (g.V.Watcher.shown c.taken.new.self heard.Stop) c.args.journal _ c.in-Ok.taken.answer c.in-Ok.ensures.answered.took c.requires.resting c.in-Stop-taken.ensures.shown
          (c.in_default.ensures.shown _ h);
    })

pub returns-in-Err-clause-shown_at_end : goal.returns-in-Err-clause-shown_at_end
returns-in-Err-clause-shown_at_end g c h =
    shown_unanswered (g.V.Watcher.shown c.wait_for.new.watcher) c.args.journal _ _ _ _ c.in-Err.end c.in-Err.ensures.unanswered (c.in_default.ensures.shown _ h)
