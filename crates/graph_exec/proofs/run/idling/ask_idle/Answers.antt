use Rattle.std.proofs.Common.{ap, sym, ◌∙◌}
use Rattle.graph_exec.specs.KnownJournals.{KnownJournalOf}
use Rattle.graph_exec.specs.Inner.Turns.{plain_of}
use Rattle.graph_exec.proofs.Idle.{flies_none, refuses, stays_idle, takes_idle}
use Rattle.graph_exec.proofs.Lasts.{source_asked, source_on, source_same}
use Rattle.graph_exec.proofs.Rests.{agrees_refused, agrees_taken, none_in_flight}
use Rattle.graph_exec.proofs.run.idling.ask_idle.Goals as goal

-- no memory is left

pub returns-in_default-clause-source : goal.returns-in_default-clause-source
returns-in_default-clause-source g c = source_same g.S.Outcomes g.met.S.Outcomes.from_itself _

-- an answer is entered

pub enter-requires : goal.enter-requires
enter-requires g c = sym c.applies.ensures ∙ c.if-not-applies.false

pub returns-else-not-applies-clause-answered : goal.returns-else-not-applies-clause-answered
returns-else-not-applies-clause-answered g c =
    record {
      said = c.in-Answer.ensures.gives;
      took = takes_idle c.args.journal c.nothing_to_do.result c.nothing_to_do.ensures c.in-Answer.answer _ (rw c.in-Ok.ensures.ok at c.applies.ensures) c.if-not-applies.false _
          (rw c.in-Ok.ensures.ok at c.enter.ensures) _ c.into_known-in-Answer.ensures;
    }

pub returns-else-not-applies-clause-agrees : goal.returns-else-not-applies-clause-agrees
returns-else-not-applies-clause-agrees g c h =
    let j = c.args.journal in
    let took = takes_idle j c.nothing_to_do.result c.nothing_to_do.ensures c.in-Answer.answer _ (rw c.in-Ok.ensures.ok at c.applies.ensures) c.if-not-applies.false _
    (rw c.in-Ok.ensures.ok at c.enter.ensures) _ c.into_known-in-Answer.ensures in
    let none = (rw c.in-Ok.ensures.ok at c.flight.ensures.pairs) ∙ flies_none j c.nothing_to_do.result c.nothing_to_do.ensures in
    let on = rw none at (c.in-Answer.ensures.agrees j.cluster j.events 0 h (none_in_flight j.events _ c.requires.resting none)) in
    agrees_taken (g.S.Outcomes.agrees c.next.new.self) (λ d es k a. g.met.S.Outcomes.anew c.next.new.self d es k a) j.cluster j.events c.in-Answer.answer on took.applies _
    (ap (λ (x : KnownJournalOf). x.events) took.goes_on)

pub returns-else-not-applies-clause-source : goal.returns-else-not-applies-clause-source
returns-else-not-applies-clause-source g c =
    let says = c.in-Answer.ensures in
    source_on g.S.Outcomes _ _ g.met.S.Outcomes.from_said _ (λ e. cc)
    (source_asked g.S.Outcomes _ _ _ says.whole says.count says.cause says.answered says.careful says.steady says.over says.said)

pub returns-else-not-applies-clause-answer : goal.returns-else-not-applies-clause-answer
returns-else-not-applies-clause-answer g c = c.in-Answer.ensures.answered.rose

-- it doesn't apply

pub returns-then-not-applies-clause-source : goal.returns-then-not-applies-clause-source
returns-then-not-applies-clause-source g c =
    let says = c.in-Answer.ensures in
    source_asked g.S.Outcomes _ _ _ says.whole says.count says.cause says.answered says.careful says.steady says.over says.said

pub returns-then-not-applies-clause-unanswered : goal.returns-then-not-applies-clause-unanswered
returns-then-not-applies-clause-unanswered g c =
    record {
      said = c.in-Answer.ensures.gives;
      back = c.into_known.result;
      refused = refuses c.args.journal c.nothing_to_do.result c.nothing_to_do.ensures c.in-Answer.answer _ (rw c.in-Ok.ensures.ok at c.applies.ensures) c.if-not-applies.true _
          (rw c.in-Ok.ensures.ok at c.into_known.ensures);
      leaves = c.into_journal-journal.ensures;
    }

pub returns-then-not-applies-clause-agrees_at_end : goal.returns-then-not-applies-clause-agrees_at_end
returns-then-not-applies-clause-agrees_at_end g c h =
    let j = c.args.journal in
    let refused = refuses j c.nothing_to_do.result c.nothing_to_do.ensures c.in-Answer.answer _ (rw c.in-Ok.ensures.ok at c.applies.ensures) c.if-not-applies.true _
    (rw c.in-Ok.ensures.ok at c.into_known.ensures) in
    let none = (rw c.in-Ok.ensures.ok at c.flight.ensures.pairs) ∙ flies_none j c.nothing_to_do.result c.nothing_to_do.ensures in
    let on = rw none at (c.in-Answer.ensures.agrees j.cluster j.events 0 h (none_in_flight j.events _ c.requires.resting none)) in
    rw (c.into_journal-journal.ensures, refused.same)
    (agrees_refused (g.S.Outcomes.agrees c.next.new.self) j.cluster j.events c.in-Answer.answer on refused.refused)

-- nothing more is said

pub returns-in-Silent-clause-unanswered : goal.returns-in-Silent-clause-unanswered
returns-in-Silent-clause-unanswered g c =
    let same = stays_idle c.args.journal c.nothing_to_do.result c.nothing_to_do.ensures _ (rw c.in-Ok.ensures.ok at c.into_known-in-Silent.ensures) in
    record { said = c.in-Silent.ensures.gives; leaves = c.into_journal.ensures ∙ ap plain_of same }

pub returns-in-Silent-clause-source : goal.returns-in-Silent-clause-source
returns-in-Silent-clause-source g c =
    let says = c.in-Silent.ensures in
    source_asked g.S.Outcomes _ _ _ says.whole says.count says.cause says.answered says.careful says.steady says.over says.said

-- the source fails

pub returns-in-Failed-clause-source : goal.returns-in-Failed-clause-source
returns-in-Failed-clause-source g c =
    let says = c.in-Failed.ensures in
    source_asked g.S.Outcomes _ _ _ says.whole says.count says.cause says.answered says.careful says.steady says.over says.said

pub returns-in-Failed-clause-unanswered : goal.returns-in-Failed-clause-unanswered
returns-in-Failed-clause-unanswered g c =
    let same = stays_idle c.args.journal c.nothing_to_do.result c.nothing_to_do.ensures _ (rw c.in-Ok.ensures.ok at c.into_known-in-Failed.ensures) in
    record { left_is = c.in-Failed.ensures.gives; not_over = c.in-Failed.ensures.over; leaves = c.into_journal-journal-in-Failed.ensures ∙ ap plain_of same }
