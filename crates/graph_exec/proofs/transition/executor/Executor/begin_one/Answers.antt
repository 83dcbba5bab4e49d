use Rattle.std.proofs.Common.{Some, ap, ◌∙◌}
use Rattle.graph_exec.specs.declared.transition.watcher.Heard.TheVariants as heard
use Rattle.graph_exec.specs.WatchedTransitions.{view_of}
use Rattle.graph_exec.proofs.Aborting.{begin_aborted, none_aborted}
use Rattle.graph_exec.proofs.Carrying.{fewer_begins, no_more_asks, went_begun, went_nowhere}
use Rattle.graph_exec.proofs.Lasts.{source_same, source_told, watcher_same}
use Rattle.graph_exec.proofs.Said.{said_begun, said_nothing}
use Rattle.graph_exec.proofs.Shown.{shown_later}
use Rattle.graph_exec.proofs.Stepping.{begun_action, begun_high}
use Rattle.graph_exec.proofs.Told.{hears_begin}
use Rattle.graph_exec.proofs.transition.executor.Executor.begin_one.Goals as goal

-- none may begin

pub returns-in_default-clause-went : goal.returns-in_default-clause-went
returns-in_default-clause-went g c = rw c.in_default.ensures.settled.same (went_nowhere _ _ _)

pub returns-in_default-clause-said : goal.returns-in_default-clause-said
returns-in_default-clause-said g c = rw c.in_default.ensures.settled.same (said_nothing _ _)

pub returns-in_default-clause-source : goal.returns-in_default-clause-source
returns-in_default-clause-source g c = source_same g.S.Outcomes g.met.S.Outcomes.from_itself _

pub returns-in_default-clause-watcher : goal.returns-in_default-clause-watcher
returns-in_default-clause-watcher g c = watcher_same g.V.Watcher _

-- one begins

pub action-action-requires-clause-to_count : goal.action-action-requires-clause-to_count
action-action-requires-clause-to_count g c =
    let graph = rw c.self.view_is at c.flight.ensures.graph in
    rw (c.graph.ensures ∙ graph) (begun_high _ _ c.in-Some.number c.in-Some.ensures.begins)

pub returns-clause-went : goal.returns-clause-went
returns-clause-went g c = went_begun _ _ _ _ _ (record { number = c.in-Some.number; now = c.in-Some.ensures.begins }) c.begun.ensures.rest

pub returns-clause-said : goal.returns-clause-said
returns-clause-said g c = said_begun _ _ _ _ (record { number = c.in-Some.number; now = c.in-Some.ensures.begins }) c.begun.ensures.rest

pub returns-clause-on : goal.returns-clause-on
returns-clause-on g c = fewer_begins _ _ (record { number = c.in-Some.number; now = c.in-Some.ensures.begins })

pub returns-clause-asks : goal.returns-clause-asks
returns-clause-asks g c = no_more_asks _ _ (record { number = c.in-Some.number; now = c.in-Some.ensures.begins })

pub returns-clause-told : goal.returns-clause-told
returns-clause-told g c =
    let graph = rw c.self.view_is at c.flight.ensures.graph in
    let action = begun_action _ _ c.in-Some.number c.in-Some.ensures.begins c.action-action.result (rw (c.graph.ensures ∙ graph) at c.action-action.ensures) in
    hears_begin _ _ _ _ _ _ _ c.in-Some.number c.in-Some.ensures.begins _ c.begun.ensures.rest (rw action c.tell_begin-heard.ensures.follows) (rw action c.tell_begin-heard.ensures.stopped)

pub returns-clause-source : goal.returns-clause-source
returns-clause-source g c =
    let told = c.begun.ensures in
    source_told g.S.Outcomes _ _ told.whole told.count told.answered told.careful told.steady told.over told.follows

-- what the watcher has been shown

pub returns-in_default-clause-shown : goal.returns-in_default-clause-shown
returns-in_default-clause-shown g c h = rw c.in_default.ensures.settled.same h

pub returns-clause-shown : goal.returns-clause-shown
returns-clause-shown g c h =
    let begins = c.in-Some.ensures.begins in
    let graph = rw c.self.view_is at c.flight.ensures.graph in
    let action = begun_action _ _ c.in-Some.number begins c.action-action.result (rw (c.graph.ensures ∙ graph) at c.action-action.ensures) in
    shown_later (g.V.Watcher.shown c.args.watcher.now heard.Go) (g.V.Watcher.shown c.tell_begin-heard.new.watcher c.tell_begin-heard.result) _ _ _ begins.goes_on
    (λ before. rw action (c.tell_begin-heard.ensures.shown (view_of c.args.self.now) (begins.begins.action ∙ ap Some action) before)) h

-- nothing aborts it

pub returns-in_default-clause-aborted : goal.returns-in_default-clause-aborted
returns-in_default-clause-aborted g c = rw c.in_default.ensures.settled.same (none_aborted c.args.self.now _ _)

pub returns-clause-aborted : goal.returns-clause-aborted
returns-clause-aborted g c = begin_aborted _ _ _ _ (record { number = c.in-Some.number; now = c.in-Some.ensures.begins })
