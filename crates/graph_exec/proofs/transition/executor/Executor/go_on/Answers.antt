use Rattle.std.proofs.Common.{refl}
use Rattle.graph_exec.specs.declared.transition.watcher.Heard.TheVariants as heard
use Rattle.graph_exec.specs.WatchedTransitions.{IsShownAll}
use Rattle.graph_exec.proofs.Aborting.{none_aborted}
use Rattle.graph_exec.proofs.Carrying.{advanced, ends_by, gone_by, same_by, still_going, went_answered, went_nowhere}
use Rattle.graph_exec.proofs.Entered.{asks_last, asks_nothing, asks_one}
use Rattle.graph_exec.proofs.Lasts.{source_same, watcher_then, watcher_told, watcher_untold}
use Rattle.graph_exec.proofs.Shown.{same_shown, shown_on, shown_taken}
use Rattle.graph_exec.proofs.Told.{hears_answer, hears_asking, hears_none, hears_on, told_nothing, told_on}
use Rattle.graph_exec.proofs.transition.executor.Executor.go_on.Goals as goal

-- the watcher stops as the source is about to be asked

pub returns-in-Stop-clause-steps : goal.returns-in-Stop-clause-steps
returns-in-Stop-clause-steps g c = went_nowhere _ _ _

pub returns-in-Stop-clause-source : goal.returns-in-Stop-clause-source
returns-in-Stop-clause-source g c = source_same g.S.Outcomes g.met.S.Outcomes.from_itself _

pub returns-in-Stop-clause-told : goal.returns-in-Stop-clause-told
returns-in-Stop-clause-told g c =
    hears_asking (g.V.Watcher.follows c.args.watcher.now c.wait_for.new.watcher) _ _ _ _ _ _ c.requires.waiting refl (c.in-Stop.ensures.stopped refl)

pub returns-in-Stop-clause-shown : goal.returns-in-Stop-clause-shown
returns-in-Stop-clause-shown g c h = shown_on _ _ c.args.self.now c.in-Stop.ensures.shown h

pub returns-in-Stop-clause-aborted : goal.returns-in-Stop-clause-aborted
returns-in-Stop-clause-aborted g c = none_aborted c.args.self.now _ _

-- it goes on, and so it does at the answer

pub returns-in-Go-clause-on : goal.returns-in-Go-clause-on
returns-in-Go-clause-on g c = advanced _ _ _ _ _ c.in-Ok.answer c.in-Ok.ensures.answered

pub returns-in-Go-clause-told : goal.returns-in-Go-clause-told
returns-in-Go-clause-told g c =
    told_on _ _ _ (g.met.V.Watcher.from_before _ _ _) _ _ _ (told_nothing _ (c.in_default.ensures.follows refl) _)
    (hears_answer _ (g.V.Watcher.stopped c.wait_for.new.watcher c.taken.new.self) _ _ _ _ _ c.in-Ok.answer c.in-Ok.ensures.answered heard.Go c.in-Go.ensures.follows c.in-Go.ensures.stopped)

pub returns-in-Go-clause-watcher : goal.returns-in-Go-clause-watcher
returns-in-Go-clause-watcher g c =
    let told = c.in-Go.ensures in
    watcher_then g.V.Watcher _ _ _ _ c.in_default.ensures.watcher (watcher_told g.V.Watcher _ _ heard.Go told.same_lines told.count told.cause)

-- it stops there

pub returns-in-Stop-taken-clause-steps : goal.returns-in-Stop-taken-clause-steps
returns-in-Stop-taken-clause-steps g c = went_answered _ _ _ _ _ c.in-Ok.answer c.in-Ok.ensures.answered

pub returns-in-Stop-taken-clause-told : goal.returns-in-Stop-taken-clause-told
returns-in-Stop-taken-clause-told g c =
    hears_on _ _ (g.V.Watcher.follows c.args.watcher.now c.taken.new.self) (g.met.V.Watcher.from_before _ _ _) _ _ (g.met.V.Watcher.stopped_later _ _ _) _ _ _ _ _ _ _ heard.Stop (went_nowhere _ _ _)
    (told_nothing _ (c.in_default.ensures.follows refl) _)
    (hears_answer (g.V.Watcher.follows c.wait_for.new.watcher c.taken.new.self) _ _ _ _ _ _ c.in-Ok.answer c.in-Ok.ensures.answered heard.Stop c.in-Stop-taken.ensures.follows c.in-Stop-taken.ensures.stopped)

pub returns-in-Stop-taken-clause-watcher : goal.returns-in-Stop-taken-clause-watcher
returns-in-Stop-taken-clause-watcher g c =
    let told = c.in-Stop-taken.ensures in
    watcher_then g.V.Watcher _ _ _ _ c.in_default.ensures.watcher (watcher_told g.V.Watcher _ _ heard.Stop told.same_lines told.count told.cause)

-- no answer was taken

pub returns-in-Err-clause-steps : goal.returns-in-Err-clause-steps
returns-in-Err-clause-steps g c = gone_by _ _ _ _ _ c.in-Err.end c.in-Err.ensures.stops

pub returns-in-Err-clause-end : goal.returns-in-Err-clause-end
returns-in-Err-clause-end g c = ends_by _ _ _ _ _ c.in-Err.end c.in-Err.ensures.stops

pub returns-in-Err-clause-going : goal.returns-in-Err-clause-going
returns-in-Err-clause-going g c = still_going _ _ _ _ _ c.in-Err.end c.in-Err.ensures.stops

pub returns-in-Err-clause-failed : goal.returns-in-Err-clause-failed
returns-in-Err-clause-failed g c steady fault = same_by _ _ _ _ _ c.in-Err.end c.in-Err.ensures.stops

pub returns-in-Err-clause-told : goal.returns-in-Err-clause-told
returns-in-Err-clause-told g c = hears_none _ _ _ _ _ _ _ (c.in_default.ensures.follows refl) c.in-Err.end c.in-Err.ensures.stops

pub returns-in-Err-clause-watcher : goal.returns-in-Err-clause-watcher
returns-in-Err-clause-watcher g c =
    watcher_untold g.V.Watcher _ _ _ _ _ _ _ c.in-Err.end c.in-Err.ensures.stops c.in_default.ensures.watcher

-- how often it was asked

pub returns-in-Stop-clause-questions : goal.returns-in-Stop-clause-questions
returns-in-Stop-clause-questions g c = asks_nothing _ _

pub returns-in-Stop-taken-clause-questions : goal.returns-in-Stop-taken-clause-questions
returns-in-Stop-taken-clause-questions g c = asks_one _ _ _ _ _ _ _ (advanced _ _ _ _ _ c.in-Ok.answer c.in-Ok.ensures.answered) c.in-Ok.ensures.asked

pub returns-in-Err-clause-questions : goal.returns-in-Err-clause-questions
returns-in-Err-clause-questions g c = asks_last _ _ _ _ _ _ _ c.in-Err.end c.in-Err.ensures.stops c.in-Err.ensures.asked

-- what the watcher has been shown

pub returns-in-Go-clause-shown : goal.returns-in-Go-clause-shown
returns-in-Go-clause-shown g c h =
    shown_taken _ _ _ _ _ _ _ c.in-Ok.answer c.in-Ok.ensures.answered c.requires.under_way c.in-Go.ensures.shown (shown_on _ _ c.args.self.now c.in_default.ensures.shown h)

pub returns-in-Stop-taken-clause-shown : goal.returns-in-Stop-taken-clause-shown
returns-in-Stop-taken-clause-shown g c h =
    shown_taken _ _ _ _ _ _ _ c.in-Ok.answer c.in-Ok.ensures.answered c.requires.under_way c.in-Stop-taken.ensures.shown (shown_on _ _ c.args.self.now c.in_default.ensures.shown h)

pub returns-in-Err-clause-shown : goal.returns-in-Err-clause-shown
returns-in-Err-clause-shown g c h = same_shown (λ said r. IsShownAll (g.V.Watcher.shown c.wait_for.new.watcher said) r) _ _ _ _ _ c.in-Err.end c.in-Err.ensures.stops
    (rw (same_by _ _ _ _ _ c.in-Err.end c.in-Err.ensures.stops) (shown_on _ _ c.args.self.now c.in_default.ensures.shown h))
