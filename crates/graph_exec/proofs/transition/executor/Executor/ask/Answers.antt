use Rattle.std.proofs.Common.{refl}
use Rattle.graph_exec.proofs.Aborting.{none_aborted, silent_aborted}
use Rattle.graph_exec.proofs.Carrying.{answered_by, answered_silently}
use Rattle.graph_exec.proofs.Agreeing.{accords_failed, accords_refused, accords_silent, accords_taken, never_refused, seen}
use Rattle.graph_exec.proofs.Lasts.{source_asked, source_on}
use Rattle.graph_exec.proofs.Said.{said_taken}
use Rattle.graph_exec.proofs.transition.executor.Executor.ask.Goals as goal

pub returns-in-Ok-clause-answered : goal.returns-in-Ok-clause-answered
returns-in-Ok-clause-answered g c = answered_by _ _ _ _ _ c.in-Answer.answer c.in-Answer.ensures.gives c.in-Ok.ensures.ok

pub returns-in-Silent-clause-answered : goal.returns-in-Silent-clause-answered
returns-in-Silent-clause-answered g c = answered_silently _ _ _ _ _ _ c.in-Silent.ensures.gives c.end_silently.ensures.ended

pub returns-in-Ok-clause-agrees : goal.returns-in-Ok-clause-agrees
returns-in-Ok-clause-agrees g c h =
    let is = rw c.self.view_is at c.flight.ensures.pairs in
    let under_way = rw c.self.view_is at c.self.invariant in
    accords_taken c.args.self.now c.take.new.self (g.S.Outcomes.agrees c.args.outcomes.now) (g.S.Outcomes.agrees c.next.new.self) _ is under_way h c.in-Answer.answer c.in-Ok.ensures.ok
    (c.in-Answer.ensures.agrees _ _ _ h.agrees_now (seen c.args.self.now c.take.new.self (g.S.Outcomes.agrees c.args.outcomes.now) (g.S.Outcomes.agrees c.next.new.self) _ is under_way h))

pub returns-in-Err-clause-agrees : goal.returns-in-Err-clause-agrees
returns-in-Err-clause-agrees g c h =
    let is = rw c.self.view_is at c.flight.ensures.pairs in
    let under_way = rw c.self.view_is at c.self.invariant in
    accords_refused c.args.self.now c.take.new.self (g.S.Outcomes.agrees c.args.outcomes.now) (g.S.Outcomes.agrees c.next.new.self) _ is under_way h c.in-Answer.answer c.in-Err.ensures.err
    (c.in-Answer.ensures.agrees _ _ _ h.agrees_now (seen c.args.self.now c.take.new.self (g.S.Outcomes.agrees c.args.outcomes.now) (g.S.Outcomes.agrees c.next.new.self) _ is under_way h))

pub returns-in-Err-clause-fitting : goal.returns-in-Err-clause-fitting
returns-in-Err-clause-fitting g c careful h =
    let is = rw c.self.view_is at c.flight.ensures.pairs in
    let under_way = rw c.self.view_is at c.self.invariant in
    never_refused c.args.self.now c.take.new.self (g.S.Outcomes.agrees c.args.outcomes.now) (g.S.Outcomes.agrees c.next.new.self) _ is under_way h c.in-Answer.answer c.in-Err.ensures.err
    (c.in-Answer.ensures.fitting _ _ _ careful h.agrees_now (seen c.args.self.now c.take.new.self (g.S.Outcomes.agrees c.args.outcomes.now) (g.S.Outcomes.agrees c.next.new.self) _ is under_way h))

pub returns-in-Silent-clause-agrees : goal.returns-in-Silent-clause-agrees
returns-in-Silent-clause-agrees g c h =
    let is = rw c.self.view_is at c.flight.ensures.pairs in
    let under_way = rw c.self.view_is at c.self.invariant in
    accords_silent c.args.self.now c.end_silently.new.self (g.S.Outcomes.agrees c.args.outcomes.now) (g.S.Outcomes.agrees c.next.new.self) _ is under_way h _ c.end_silently.ensures.ended
    (c.in-Silent.ensures.agrees _ _ _ h.agrees_now (seen c.args.self.now c.end_silently.new.self (g.S.Outcomes.agrees c.args.outcomes.now) (g.S.Outcomes.agrees c.next.new.self) _ is under_way h))

pub returns-in-Failed-clause-agrees : goal.returns-in-Failed-clause-agrees
returns-in-Failed-clause-agrees g c h =
    let is = rw c.self.view_is at c.flight.ensures.pairs in
    let under_way = rw c.self.view_is at c.self.invariant in
    accords_failed c.args.self.now c.args.self.now (g.S.Outcomes.agrees c.args.outcomes.now) (g.S.Outcomes.agrees c.next.new.self) _ is under_way h refl
    (c.in-Failed.ensures.agrees _ _ _ h.agrees_now (seen c.args.self.now c.args.self.now (g.S.Outcomes.agrees c.args.outcomes.now) (g.S.Outcomes.agrees c.next.new.self) _ is under_way h))

pub returns-in-Ok-clause-said : goal.returns-in-Ok-clause-said
returns-in-Ok-clause-said g c steady open_still = said_taken _ _ _ _ _ c.in-Answer.answer c.in-Answer.ensures.gives c.in-Ok.ensures.ok

pub returns-in-Failed-clause-under_way : goal.returns-in-Failed-clause-under_way
returns-in-Failed-clause-under_way g c = rw c.self.view_is at c.self.invariant

-- a question that didn't fail

pub returns-in-Ok-clause-source : goal.returns-in-Ok-clause-source
returns-in-Ok-clause-source g c =
    let says = c.in-Answer.ensures in
    source_on g.S.Outcomes _ _ g.met.S.Outcomes.from_said _ (λ e. cc)
    (source_asked g.S.Outcomes _ _ _ says.whole says.count says.cause says.answered says.careful says.steady says.over says.said)

pub returns-in-Silent-clause-source : goal.returns-in-Silent-clause-source
returns-in-Silent-clause-source g c =
    let says = c.in-Silent.ensures in
    source_on g.S.Outcomes _ _ g.met.S.Outcomes.from_said _ (λ e. cc)
    (source_asked g.S.Outcomes _ _ _ says.whole says.count says.cause says.answered says.careful says.steady says.over says.said)

-- what was said last ends it

pub returns-in-Err-clause-source : goal.returns-in-Err-clause-source
returns-in-Err-clause-source g c =
    let says = c.in-Answer.ensures in
    rw c.in-Err.ensures.answer (source_asked g.S.Outcomes _ _ _ says.whole says.count says.cause says.answered says.careful says.steady says.over says.said)

pub returns-in-Failed-clause-source : goal.returns-in-Failed-clause-source
returns-in-Failed-clause-source g c =
    let says = c.in-Failed.ensures in
    source_asked g.S.Outcomes _ _ _ says.whole says.count says.cause says.answered says.careful says.steady says.over says.said

-- what aborts comes with an answer

pub returns-in-Ok-clause-aborted : goal.returns-in-Ok-clause-aborted
returns-in-Ok-clause-aborted g c = record { given = λ calm aborted. c.in-Answer.ensures.answered.rose }

pub returns-in-Err-clause-aborted : goal.returns-in-Err-clause-aborted
returns-in-Err-clause-aborted g c = rw c.in-Err.ensures.err.same (none_aborted c.args.self.now _ _)

pub returns-in-Silent-clause-aborted : goal.returns-in-Silent-clause-aborted
returns-in-Silent-clause-aborted g c = silent_aborted _ _ _ _ _ c.end_silently.ensures.ended

pub returns-in-Failed-clause-aborted : goal.returns-in-Failed-clause-aborted
returns-in-Failed-clause-aborted g c = none_aborted c.args.self.now _ _
