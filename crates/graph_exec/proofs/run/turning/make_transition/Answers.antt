use Rattle.std.proofs.Common.{◌∙◌, inl, refl}
use Rattle.graph_exec.specs.declared.transition.watcher.Heard.TheVariants as heard
use Rattle.graph_exec.specs.Replays.{setting, sight}
use Rattle.graph_exec.proofs.Entered.{asks_then}
use Rattle.graph_exec.proofs.Joined.{lacks_memory}
use Rattle.graph_exec.proofs.Lasts.{rose_since, source_same, source_then, watcher_same, watcher_then, watcher_told}
use Rattle.graph_exec.proofs.Questions.{asks_carried, asks_carried_end, asks_on, asks_planned}
use Rattle.graph_exec.proofs.Ready.{came_begun, comes_behind, ends_behind, has_plan, same_cluster, same_promotions, starts_fresh, stops_begun}
use Rattle.graph_exec.proofs.Served.{serves_again}
use Rattle.graph_exec.proofs.Shown.{end_behind, shown_behind, shown_end, shown_planned, shown_stopped, shown_there}
use Rattle.graph_exec.proofs.run.turning.make_transition.Goals as goal

-- no memory is left

pub returns-in_default-clause-ends : goal.returns-in_default-clause-ends
returns-in_default-clause-ends g c = lacks_memory (setting _ _ _ _) _ (g.met.V.Watcher.from_itself _) _ (sight _ _) tt

-- the watcher stops at the plan

pub returns-in-Stop-clause-ends : goal.returns-in-Stop-clause-ends
returns-in-Stop-clause-ends g c =
    rw c.stopped.ensures (inl (stops_begun c.args.journal c.in-Ok.planned c.in-Ok.ensures.ready _ _ _ _ _ _ _ (c.in-Stop.ensures.stopped refl _ c.requires.lines) _ refl))

-- the transition is carried out

pub carry_out-carried-requires-clause-fresh : goal.carry_out-carried-requires-clause-fresh
carry_out-carried-requires-clause-fresh g c = starts_fresh c.args.journal c.in-Ok.planned c.in-Ok.ensures.ready

pub carry_out-carried-requires-clause-planned : goal.carry_out-carried-requires-clause-planned
carry_out-carried-requires-clause-planned g c = has_plan c.args.journal c.in-Ok.planned c.in-Ok.ensures.ready

pub returns-in-Err-clause-ends : goal.returns-in-Err-clause-ends
returns-in-Err-clause-ends g c =
    let j = c.args.journal in
    let p = c.in-Ok.planned in
    let ready = c.in-Ok.ensures.ready in
    let begun = came_begun j p ready _ _ _ _ _ _ (c.in_default-planned.ensures.follows refl _ c.requires.lines) in
    ends_behind _ _ _ (g.met.V.Watcher.from_before _ _ _) _ _ _ _ _ _ _ _ begun _ _ (same_cluster j p ready) (same_promotions j p ready) _ _ _ (g.met.V.Watcher.stopped_later _ _ _) _ _ (λ steady h. h) (rw c.in-Err.ensures at c.carry_out-carried.ensures.ends)

-- it was aborted

pub returns-then-not-closed-clause-goes_on : goal.returns-then-not-closed-clause-goes_on
returns-then-not-closed-clause-goes_on g c =
    let j = c.args.journal in
    let p = c.in-Ok.planned in
    let ready = c.in-Ok.ensures.ready in
    let begun = came_begun j p ready _ _ _ _ _ _ (c.in_default-planned.ensures.follows refl _ c.requires.lines) in
    comes_behind _ _ _ (g.met.V.Watcher.from_before _ _ _) _ _ _ _ _ _ _ _ begun _ _ (same_cluster j p ready) (same_promotions j p ready) _ _ _ c.carry_out-carried.ensures.source.over
    (rw (c.in-Ok-with.ensures.1, c.if-not-closed.true) at c.carry_out-carried.ensures.closes)

-- it is complete

pub take_idle-taken-requires : goal.take_idle-taken-requires
take_idle-taken-requires g c = record { resting = (rw c.in-Ok-with.ensures.1 at c.carry_out-carried.ensures.at_rest).1 }

pub returns-in-Ok-with-2-clause-goes_on : goal.returns-in-Ok-with-2-clause-goes_on
returns-in-Ok-with-2-clause-goes_on g c =
    let j = c.args.journal in
    let p = c.in-Ok.planned in
    let ready = c.in-Ok.ensures.ready in
    let begun = came_begun j p ready _ _ _ _ _ _ (c.in_default-planned.ensures.follows refl _ c.requires.lines) in
    let closed = comes_behind _ _ _ (g.met.V.Watcher.from_before _ _ _) _ _ _ _ _ _ _ _ begun _ _ (same_cluster j p ready) (same_promotions j p ready) _ _ _ c.carry_out-carried.ensures.source.over
    (rw (c.in-Ok-with.ensures.1, c.if-not-closed.false) at c.carry_out-carried.ensures.closes) in
    comes_behind _ _ _ (g.met.V.Watcher.from_before _ _ _) _ _ _ _ _ _ _ _ closed.came _ _ closed.cluster_stays closed.promotions_stay _ _ _
    (λ steady h. c.take_idle-taken.ensures.source.over (c.carry_out-carried.ensures.source.steady ∙ steady) h)
    (rw (c.carry_out-carried.ensures.source.whole, c.carry_out-carried.ensures.source.steady) at (rw c.in-Ok-with-2.ensures.1 at c.take_idle-taken.ensures.goes_on))

pub returns-in-Err-with-clause-ends : goal.returns-in-Err-with-clause-ends
returns-in-Err-with-clause-ends g c =
    let j = c.args.journal in
    let p = c.in-Ok.planned in
    let ready = c.in-Ok.ensures.ready in
    let begun = came_begun j p ready _ _ _ _ _ _ (c.in_default-planned.ensures.follows refl _ c.requires.lines) in
    let closed = comes_behind _ _ _ (g.met.V.Watcher.from_before _ _ _) _ _ _ _ _ _ _ _ begun _ _ (same_cluster j p ready) (same_promotions j p ready) _ _ _ c.carry_out-carried.ensures.source.over
    (rw (c.in-Ok-with.ensures.1, c.if-not-closed.false) at c.carry_out-carried.ensures.closes) in
    ends_behind _ _ _ (g.met.V.Watcher.from_before _ _ _) _ _ _ _ _ _ _ _ closed.came _ _ closed.cluster_stays closed.promotions_stay _ _ _ (g.met.V.Watcher.stopped_later _ _ _) _ _ c.carry_out-carried.ensures.source.over
    (rw (c.carry_out-carried.ensures.source.whole, c.carry_out-carried.ensures.source.steady) at (rw c.in-Err-with.ensures at c.take_idle-taken.ensures.ends))

-- what the source and the watcher have come to

pub returns-in_default-clause-source : goal.returns-in_default-clause-source
returns-in_default-clause-source g c = source_same g.S.Outcomes g.met.S.Outcomes.from_itself _

pub returns-in_default-clause-watcher : goal.returns-in_default-clause-watcher
returns-in_default-clause-watcher g c = watcher_same g.V.Watcher _

pub returns-in-Stop-clause-source : goal.returns-in-Stop-clause-source
returns-in-Stop-clause-source g c = rw c.stopped.ensures (source_same g.S.Outcomes g.met.S.Outcomes.from_itself _)

pub returns-in-Stop-clause-watcher : goal.returns-in-Stop-clause-watcher
returns-in-Stop-clause-watcher g c =
    let told = c.in-Stop.ensures in
    rw c.stopped.ensures (watcher_told g.V.Watcher _ _ heard.Stop told.same_lines told.count told.cause)

pub returns-in-Err-clause-source : goal.returns-in-Err-clause-source
returns-in-Err-clause-source g c = rw c.in-Err.ensures at c.carry_out-carried.ensures.source

pub returns-in-Err-clause-watcher : goal.returns-in-Err-clause-watcher
returns-in-Err-clause-watcher g c =
    let told = c.in_default-planned.ensures in
    watcher_then g.V.Watcher _ _ _ _ (watcher_told g.V.Watcher _ _ heard.Go told.same_lines told.count told.cause)
    (rw c.in-Err.ensures at c.carry_out-carried.ensures.watcher)

pub returns-then-not-closed-clause-source : goal.returns-then-not-closed-clause-source
returns-then-not-closed-clause-source g c = rw c.in-Ok-with.ensures.1 at c.carry_out-carried.ensures.source

pub returns-then-not-closed-clause-watcher : goal.returns-then-not-closed-clause-watcher
returns-then-not-closed-clause-watcher g c =
    let told = c.in_default-planned.ensures in
    watcher_then g.V.Watcher _ _ _ _ (watcher_told g.V.Watcher _ _ heard.Go told.same_lines told.count told.cause)
    (rw c.in-Ok-with.ensures.1 at c.carry_out-carried.ensures.watcher)

pub returns-in-Ok-with-2-clause-source : goal.returns-in-Ok-with-2-clause-source
returns-in-Ok-with-2-clause-source g c =
    source_then g.S.Outcomes g.met.S.Outcomes.from_before g.met.S.Outcomes.said_later _ _ _ _ (rw c.in-Ok-with.ensures.1 at c.carry_out-carried.ensures.source)
    (rw c.in-Ok-with-2.ensures.1 at c.take_idle-taken.ensures.source)

pub returns-in-Ok-with-2-clause-watcher : goal.returns-in-Ok-with-2-clause-watcher
returns-in-Ok-with-2-clause-watcher g c =
    let told = c.in_default-planned.ensures in
    watcher_then g.V.Watcher _ _ _ _
    (watcher_then g.V.Watcher _ _ _ _ (watcher_told g.V.Watcher _ _ heard.Go told.same_lines told.count told.cause)
    (rw c.in-Ok-with.ensures.1 at c.carry_out-carried.ensures.watcher))
    (rw c.in-Ok-with-2.ensures.1 at c.take_idle-taken.ensures.watcher)

pub returns-in-Err-with-clause-source : goal.returns-in-Err-with-clause-source
returns-in-Err-with-clause-source g c =
    source_then g.S.Outcomes g.met.S.Outcomes.from_before g.met.S.Outcomes.said_later _ _ _ _ (rw c.in-Ok-with.ensures.1 at c.carry_out-carried.ensures.source)
    (rw c.in-Err-with.ensures at c.take_idle-taken.ensures.source)

pub returns-in-Err-with-clause-watcher : goal.returns-in-Err-with-clause-watcher
returns-in-Err-with-clause-watcher g c =
    let told = c.in_default-planned.ensures in
    watcher_then g.V.Watcher _ _ _ _
    (watcher_then g.V.Watcher _ _ _ _ (watcher_told g.V.Watcher _ _ heard.Go told.same_lines told.count told.cause)
    (rw c.in-Ok-with.ensures.1 at c.carry_out-carried.ensures.watcher))
    (rw c.in-Err-with.ensures at c.take_idle-taken.ensures.watcher)

-- an answer was given: it aborted the transition, or came behind it

pub returns-then-not-closed-clause-answer : goal.returns-then-not-closed-clause-answer
returns-then-not-closed-clause-answer g c = (rw c.in-Ok-with.ensures.1 at c.carry_out-carried.ensures.answer) c.if-not-closed.true

pub returns-in-Ok-with-2-clause-answer : goal.returns-in-Ok-with-2-clause-answer
returns-in-Ok-with-2-clause-answer g c =
    rose_since _ _ _ c.carry_out-carried.ensures.source.answered (rw c.in-Ok-with-2.ensures.1 at c.take_idle-taken.ensures.answer)

-- how often it was asked

pub returns-in-Stop-clause-questions_at_end : goal.returns-in-Stop-clause-questions_at_end
returns-in-Stop-clause-questions_at_end g c = rw c.stopped.ensures (asks_planned c.args.journal c.in-Ok.planned c.in-Ok.ensures.ready _ _ refl)

pub returns-in-Err-clause-questions_at_end : goal.returns-in-Err-clause-questions_at_end
returns-in-Err-clause-questions_at_end g c =
    asks_carried_end c.args.journal c.in-Ok.planned c.in-Ok.ensures.ready (g.S.Outcomes.asked c.args.outcomes.now) (g.S.Outcomes.asked c.carry_out-carried.new.outcomes) c.in-Err.ended
    (rw c.in-Err.ensures at c.carry_out-carried.ensures.questions_at_end)

pub returns-then-not-closed-clause-questions : goal.returns-then-not-closed-clause-questions
returns-then-not-closed-clause-questions g c =
    asks_carried c.args.journal c.in-Ok.planned c.in-Ok.ensures.ready _ _ _ _
    (rw c.in-Ok-with.ensures.1 at c.carry_out-carried.ensures.questions)

pub returns-in-Ok-with-2-clause-questions : goal.returns-in-Ok-with-2-clause-questions
returns-in-Ok-with-2-clause-questions g c =
    let carried = asks_carried c.args.journal c.in-Ok.planned c.in-Ok.ensures.ready _ _ _ _
    (rw c.in-Ok-with.ensures.1 at c.carry_out-carried.ensures.questions) in
    asks_then _ _ _ _ _ _ _ carried (rw c.in-Ok-with-2.ensures.1 at c.take_idle-taken.ensures.questions)

pub returns-in-Err-with-clause-questions_at_end : goal.returns-in-Err-with-clause-questions_at_end
returns-in-Err-with-clause-questions_at_end g c =
    let carried = asks_carried c.args.journal c.in-Ok.planned c.in-Ok.ensures.ready _ _ _ _
    (rw c.in-Ok-with.ensures.1 at c.carry_out-carried.ensures.questions) in
    asks_on _ _ (g.S.Outcomes.asked c.take_idle-taken.new.outcomes) _ _ carried c.in-Err-with.ended (rw c.in-Err-with.ensures at c.take_idle-taken.ensures.questions_at_end)

-- the plan serves again

pub returns-then-not-closed-clause-serves : goal.returns-then-not-closed-clause-serves
returns-then-not-closed-clause-serves g c =
    let p = c.in-Ok.planned in
    rw c.in-Ok-with.ensures.0
    (serves_again _ (record { states = p.states; rights = p.rights; placed = p.placed; graph = p.executor.graph }) _ (rw c.in-Ok-with.ensures.1 at c.carry_out-carried.ensures.graph) c.in-Ok.ensures.serves)

pub returns-in-Ok-with-2-clause-serves : goal.returns-in-Ok-with-2-clause-serves
returns-in-Ok-with-2-clause-serves g c =
    let p = c.in-Ok.planned in
    rw (c.in-Ok-with-2.ensures.0, c.in-Ok-with.ensures.0)
    (serves_again _ (record { states = p.states; rights = p.rights; placed = p.placed; graph = p.executor.graph }) _ (rw c.in-Ok-with.ensures.1 at c.carry_out-carried.ensures.graph) c.in-Ok.ensures.serves)

-- what the watcher has been shown

pub returns-in-Stop-clause-shown_at_end : goal.returns-in-Stop-clause-shown_at_end
returns-in-Stop-clause-shown_at_end g c h =
    let planned = shown_planned c.args.journal c.in-Ok.planned c.in-Ok.ensures.ready (g.V.Watcher.shown c.args.watcher.now heard.Go) (g.V.Watcher.shown c.planned.new.self heard.Stop) c.in-Stop.ensures.shown h in
    rw c.stopped.ensures (shown_stopped c.args.journal c.in-Ok.planned c.in-Ok.ensures.ready (g.V.Watcher.shown c.planned.new.self) heard.Stop planned _ refl)

pub returns-in-Err-clause-shown_at_end : goal.returns-in-Err-clause-shown_at_end
returns-in-Err-clause-shown_at_end g c h =
    let planned = shown_planned c.args.journal c.in-Ok.planned c.in-Ok.ensures.ready (g.V.Watcher.shown c.args.watcher.now heard.Go) (g.V.Watcher.shown c.planned.new.self heard.Go) c.in_default-planned.ensures.shown h in
    shown_end c.args.journal c.in-Ok.planned c.in-Ok.ensures.ready (g.V.Watcher.shown c.carry_out-carried.new.watcher) _
    ((rw c.in-Err.ensures at c.carry_out-carried.ensures.shown_at_end) planned)

pub returns-then-not-closed-clause-shown : goal.returns-then-not-closed-clause-shown
returns-then-not-closed-clause-shown g c h =
    let planned = shown_planned c.args.journal c.in-Ok.planned c.in-Ok.ensures.ready (g.V.Watcher.shown c.args.watcher.now heard.Go) (g.V.Watcher.shown c.planned.new.self heard.Go) c.in_default-planned.ensures.shown h in
    shown_there c.args.journal c.in-Ok.planned c.in-Ok.ensures.ready (g.V.Watcher.shown c.carry_out-carried.new.watcher heard.Go) _
    ((rw c.in-Ok-with.ensures.1 at c.carry_out-carried.ensures.shown) planned)

pub returns-in-Ok-with-2-clause-shown : goal.returns-in-Ok-with-2-clause-shown
returns-in-Ok-with-2-clause-shown g c h =
    let j = c.args.journal in
    let p = c.in-Ok.planned in
    let ready = c.in-Ok.ensures.ready in
    let planned = shown_planned j p ready (g.V.Watcher.shown c.args.watcher.now heard.Go) (g.V.Watcher.shown c.planned.new.self heard.Go) c.in_default-planned.ensures.shown h in
    let there = shown_there j p ready (g.V.Watcher.shown c.carry_out-carried.new.watcher heard.Go) _ ((rw c.in-Ok-with.ensures.1 at c.carry_out-carried.ensures.shown) planned) in
    let closes = rw c.in-Ok-with.ensures.1 at c.carry_out-carried.ensures.closes in
    shown_behind _ _ _ _ (closes.cluster_stays ∙ same_cluster j p ready) (closes.promotions_stay ∙ same_promotions j p ready)
    (g.V.Watcher.shown c.carry_out-carried.new.watcher heard.Go) (g.V.Watcher.shown c.take_idle-taken.new.watcher heard.Go) _ _
    (rw c.in-Ok-with-2.ensures.1 at c.take_idle-taken.ensures.shown) there

pub returns-in-Err-with-clause-shown_at_end : goal.returns-in-Err-with-clause-shown_at_end
returns-in-Err-with-clause-shown_at_end g c h =
    let j = c.args.journal in
    let p = c.in-Ok.planned in
    let ready = c.in-Ok.ensures.ready in
    let planned = shown_planned j p ready (g.V.Watcher.shown c.args.watcher.now heard.Go) (g.V.Watcher.shown c.planned.new.self heard.Go) c.in_default-planned.ensures.shown h in
    let there = shown_there j p ready (g.V.Watcher.shown c.carry_out-carried.new.watcher heard.Go) _ ((rw c.in-Ok-with.ensures.1 at c.carry_out-carried.ensures.shown) planned) in
    let closes = rw c.in-Ok-with.ensures.1 at c.carry_out-carried.ensures.closes in
    end_behind _ _ _ _ (closes.cluster_stays ∙ same_cluster j p ready) (closes.promotions_stay ∙ same_promotions j p ready)
    (g.V.Watcher.shown c.carry_out-carried.new.watcher heard.Go) (g.V.Watcher.shown c.take_idle-taken.new.watcher) _ _
    (rw c.in-Err-with.ensures at c.take_idle-taken.ensures.shown_at_end) there
