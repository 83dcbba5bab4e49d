use Rattle.std.proofs.Common.{ap, inr, length, refl, ◌∙◌}
use Rattle.graph_exec.specs.declared.transition.ends.End.{End}
use Rattle.graph_exec.specs.KnownJournals.{KnownJournalOf}
use Rattle.graph_exec.specs.Inner.KeptTransitions.{passed_end}
use Rattle.graph_exec.proofs.Entered.{asks_then}
use Rattle.graph_exec.proofs.Lasts.{source_open, source_same, source_then}
use Rattle.graph_exec.proofs.LastsNext.{source_keeping}
use Rattle.graph_exec.proofs.KeptTurns.{ends_cut, ends_failed, ends_unanswered_there, goes_on_aborted, goes_on_answered}
use Rattle.graph_exec.proofs.Questions.{asks_answered, asks_on, asks_there, asks_unanswered}
use Rattle.graph_exec.proofs.Ready.{agrees_behind, has_plan, later_cluster}
use Rattle.graph_exec.proofs.Rests.{leaves_rest}
use Rattle.graph_exec.proofs.Whole.{events_in}
use Rattle.graph_exec.proofs.run.keeping.keep_transition.Goals as goal

-- no memory is left

pub returns-in_default-clause-source : goal.returns-in_default-clause-source
returns-in_default-clause-source g c = source_open g.S.Outcomes _ _ _ (source_same g.S.Outcomes g.met.S.Outcomes.from_itself _)

pub returns-in_default-keep_behind-clause-source : goal.returns-in_default-keep_behind-clause-source
returns-in_default-keep_behind-clause-source g c = source_open g.S.Outcomes _ _ _ c.run_transition-end.ensures.source

-- it is complete

pub ask_idle-requires : goal.ask_idle-requires
ask_idle-requires g c =
    let plan = has_plan c.args.journal c.in-Ok.planned c.in-Ok.ensures.ready in
    record {
      resting = (leaves_rest _ _ _ _ _ c.in-Complete.ensures.steps plan (λ placed is. (c.in-Complete.ensures.well placed is).0) _ c.into_known-later.ensures).1;
      in_time = inr tt;
    }

pub returns-in-Ok-ask_idle-clause-goes_on : goal.returns-in-Ok-ask_idle-clause-goes_on
returns-in-Ok-ask_idle-clause-goes_on g c es first keeps =
    let made = c.in-Complete.ensures in
    let ends = c.count-ends_at.ensures ∙ ap (λ (x : KnownJournalOf). length x.events) c.into_known-later.ensures in
    goes_on_answered c.args.journal c.in-Ok.planned c.in-Ok.ensures.ready _ _ es first _ _ _ keeps _ _ _ c.count-begins_at.ensures ends _ c.passed_end.result refl _ c.in-Ok-keep_behind.ensures.ok
    _ made.steps _ made.source.over (λ steady open_still. (made.said steady).to_end open_still tt) (c.passed_end.ensures ∙ ap (λ (x : End). passed_end x) c.in-Complete.is) made.end _
    c.into_known-later.ensures _ _ (λ steady h. c.ask_idle.ensures.source.over (made.source.steady ∙ steady) h) c.in-Ok-ask_idle.taken.answer c.in-Ok-ask_idle.taken.journal (rw made.source.whole at c.in-Ok-ask_idle.ensures.answered)

pub returns-in-Ok-ask_idle-clause-agrees : goal.returns-in-Ok-ask_idle-clause-agrees
returns-in-Ok-ask_idle-clause-agrees g c h =
    let made = c.in-Complete.ensures in
    let there = agrees_behind c.args.journal c.in-Ok.planned c.in-Ok.ensures.ready _ _ _ _ made.steps (g.S.Outcomes.agrees c.args.outcomes.now)
    (g.S.Outcomes.agrees c.run_transition-end.new.outcomes) (λ d es k a. g.met.S.Outcomes.anew c.run_transition-end.new.outcomes d es k a) made.agrees h _
    (ap (λ (x : KnownJournalOf). x.events) c.into_known-later.ensures) in
    let same = later_cluster c.args.journal c.in-Ok.planned c.in-Ok.ensures.ready _ _ _ _ made.steps _ c.into_known-later.ensures in
    rw same at (c.in-Ok-ask_idle.ensures.agrees (rw same there))

pub returns-in-Ok-ask_idle-clause-source : goal.returns-in-Ok-ask_idle-clause-source
returns-in-Ok-ask_idle-clause-source g c =
    source_then g.S.Outcomes g.met.S.Outcomes.from_before g.met.S.Outcomes.said_later _ _ _ _ c.in-Complete.ensures.source c.in-Ok-ask_idle.ensures.source

pub returns-in-Err-clause-source : goal.returns-in-Err-clause-source
returns-in-Err-clause-source g c =
    source_keeping g.S.Outcomes _ _ c.in-Err.ended (source_then g.S.Outcomes g.met.S.Outcomes.from_before g.met.S.Outcomes.said_later _ _ _ _ c.in-Complete.ensures.source c.in-Err.ensures.source)

pub returns-in-Err-clause-ends : goal.returns-in-Err-clause-ends
returns-in-Err-clause-ends g c es first keeps =
    let made = c.in-Complete.ensures in
    let ends = c.count-ends_at.ensures ∙ ap (λ (x : KnownJournalOf). length x.events) c.into_known-later.ensures in
    ends_unanswered_there c.args.journal c.in-Ok.planned c.in-Ok.ensures.ready _ _ es first _ _ _ keeps _ _ _ c.count-begins_at.ensures ends _ c.passed_end.result refl _
    c.in-Ok-keep_behind.ensures.ok _ made.steps _ made.source.over (λ steady open_still. (made.said steady).to_end open_still tt)
    (c.passed_end.ensures ∙ ap (λ (x : End). passed_end x) c.in-Complete.is) made.end _ c.into_known-later.ensures _ c.in-Err.ended (rw made.source.whole at c.in-Err.ensures.unanswered)

pub returns-in-Err-clause-agrees_at_end : goal.returns-in-Err-clause-agrees_at_end
returns-in-Err-clause-agrees_at_end g c h =
    let made = c.in-Complete.ensures in
    let there = agrees_behind c.args.journal c.in-Ok.planned c.in-Ok.ensures.ready _ _ _ _ made.steps (g.S.Outcomes.agrees c.args.outcomes.now)
    (g.S.Outcomes.agrees c.run_transition-end.new.outcomes) (λ d es k a. g.met.S.Outcomes.anew c.run_transition-end.new.outcomes d es k a) made.agrees h _
    (ap (λ (x : KnownJournalOf). x.events) c.into_known-later.ensures) in
    let same = later_cluster c.args.journal c.in-Ok.planned c.in-Ok.ensures.ready _ _ _ _ made.steps _ c.into_known-later.ensures in
    rw same at (c.in-Err.ensures.agrees_at_end (rw same there))

pub returns-in-Err-clause-fitting : goal.returns-in-Err-clause-fitting
returns-in-Err-clause-fitting g c careful h =
    let made = c.in-Complete.ensures in
    let there = agrees_behind c.args.journal c.in-Ok.planned c.in-Ok.ensures.ready _ _ _ _ made.steps (g.S.Outcomes.agrees c.args.outcomes.now)
    (g.S.Outcomes.agrees c.run_transition-end.new.outcomes) (λ d es k a. g.met.S.Outcomes.anew c.run_transition-end.new.outcomes d es k a) made.agrees h _
    (ap (λ (x : KnownJournalOf). x.events) c.into_known-later.ensures) in
    let same = later_cluster c.args.journal c.in-Ok.planned c.in-Ok.ensures.ready _ _ _ _ made.steps _ c.into_known-later.ensures in
    c.in-Err.ensures.fitting (made.source.careful ∙ careful) (rw same there)

-- it was aborted

pub returns-in-Aborted-clause-goes_on : goal.returns-in-Aborted-clause-goes_on
returns-in-Aborted-clause-goes_on g c es first keeps =
    let made = c.in-Aborted.ensures in
    let ends = c.count-ends_at.ensures ∙ ap (λ (x : KnownJournalOf). length x.events) c.into_known-later.ensures in
    goes_on_aborted c.args.journal c.in-Ok.planned c.in-Ok.ensures.ready _ _ es first _ _ _ keeps _ _ _ c.count-begins_at.ensures ends _ c.passed_end.result refl _ c.in-Ok-keep_behind.ensures.ok
    _ made.steps _ made.source.over (λ steady open_still. (made.said steady).to_end open_still tt) _ (c.passed_end.ensures ∙ ap (λ (x : End). passed_end x) c.in-Aborted.is) made.end _
    c.into_known-later.ensures

pub returns-in-Aborted-clause-agrees : goal.returns-in-Aborted-clause-agrees
returns-in-Aborted-clause-agrees g c h =
    let made = c.in-Aborted.ensures in
    agrees_behind c.args.journal c.in-Ok.planned c.in-Ok.ensures.ready _ _ _ _ made.steps (g.S.Outcomes.agrees c.args.outcomes.now)
    (g.S.Outcomes.agrees c.run_transition-end.new.outcomes) (λ d es k a. g.met.S.Outcomes.anew c.run_transition-end.new.outcomes d es k a) made.agrees h _
    (ap (λ (x : KnownJournalOf). x.events) c.into_known-later.ensures)

-- an answer came that doesn't apply

pub returns-in-Unexpected-clause-ends : goal.returns-in-Unexpected-clause-ends
returns-in-Unexpected-clause-ends g c es first keeps =
    let made = c.in-Unexpected.ensures in
    let ends = c.count-ends_at.ensures ∙ ap (λ (x : KnownJournalOf). length x.events) c.into_known-later.ensures in
    ends_cut c.args.journal c.in-Ok.planned c.in-Ok.ensures.ready _ _ es first _ _ _ keeps _ _ _ c.count-begins_at.ensures ends _ c.passed_end.result refl _ c.in-Ok-keep_behind.ensures.ok
    _ c.in-Unexpected.answer made.steps (c.passed_end.ensures ∙ ap (λ (x : End). passed_end x) c.in-Unexpected.is) made.end _ (rw c.into_known-later.ensures at c.into_journal.ensures)

pub returns-in-Unexpected-clause-agrees_at_end : goal.returns-in-Unexpected-clause-agrees_at_end
returns-in-Unexpected-clause-agrees_at_end g c h =
    let made = c.in-Unexpected.ensures in
    agrees_behind c.args.journal c.in-Ok.planned c.in-Ok.ensures.ready _ _ _ _ made.steps.went (g.S.Outcomes.agrees c.args.outcomes.now)
    (g.S.Outcomes.agrees c.run_transition-end.new.outcomes) (λ d es k a. g.met.S.Outcomes.anew c.run_transition-end.new.outcomes d es k a) made.agrees h _
    (ap events_in (rw c.into_known-later.ensures at c.into_journal.ensures))

-- the source failed

pub returns-in-SourceFault-clause-ends : goal.returns-in-SourceFault-clause-ends
returns-in-SourceFault-clause-ends g c es first keeps =
    let made = c.in-SourceFault.ensures in
    let ends = c.count-ends_at.ensures ∙ ap (λ (x : KnownJournalOf). length x.events) c.into_known-later.ensures in
    ends_failed c.args.journal c.in-Ok.planned c.in-Ok.ensures.ready _ _ es first _ _ _ keeps _ _ _ c.count-begins_at.ensures ends _ c.passed_end.result refl _ c.in-Ok-keep_behind.ensures.ok
    _ made.steps (c.passed_end.ensures ∙ ap (λ (x : End). passed_end x) c.in-SourceFault.is) made.end (λ steady. (made.said steady).failed refl) (λ steady. (made.said steady).not_over refl) _
    (rw c.into_known-later.ensures at c.into_journal-in-SourceFault.ensures)

pub returns-in-SourceFault-clause-agrees_at_end : goal.returns-in-SourceFault-clause-agrees_at_end
returns-in-SourceFault-clause-agrees_at_end g c h =
    let made = c.in-SourceFault.ensures in
    agrees_behind c.args.journal c.in-Ok.planned c.in-Ok.ensures.ready _ _ _ _ made.steps (g.S.Outcomes.agrees c.args.outcomes.now)
    (g.S.Outcomes.agrees c.run_transition-end.new.outcomes) (λ d es k a. g.met.S.Outcomes.anew c.run_transition-end.new.outcomes d es k a) made.agrees h _
    (ap events_in (rw c.into_known-later.ensures at c.into_journal-in-SourceFault.ensures))

-- how often it was asked

pub returns-in-Ok-ask_idle-clause-questions : goal.returns-in-Ok-ask_idle-clause-questions
returns-in-Ok-ask_idle-clause-questions g c =
    let made = c.in-Complete.ensures in
    asks_then _ _ _ _ _ _ _
    (asks_there c.args.journal c.in-Ok.planned c.in-Ok.ensures.ready _ _ _ _ made.steps _ _ _ made.questions _ (ap (λ (x : KnownJournalOf). x.events) c.into_known-later.ensures))
    (asks_answered c.into_known-later.result _ _ c.in-Ok-ask_idle.ensures.asked c.in-Ok-ask_idle.taken.answer _ c.in-Ok-ask_idle.ensures.answered.took)

pub returns-in-Err-clause-questions_at_end : goal.returns-in-Err-clause-questions_at_end
returns-in-Err-clause-questions_at_end g c =
    let made = c.in-Complete.ensures in
    asks_on _ _ (g.S.Outcomes.asked c.ask_idle.new.outcomes) _ _
    (asks_there c.args.journal c.in-Ok.planned c.in-Ok.ensures.ready _ _ _ _ made.steps _ _ _ made.questions _ (ap (λ (x : KnownJournalOf). x.events) c.into_known-later.ensures))
    c.in-Err.ended (asks_unanswered c.into_known-later.result _ _ c.in-Err.ensures.asked _ _ _ _ c.in-Err.ended c.in-Err.ensures.unanswered)

pub returns-in-Aborted-clause-questions : goal.returns-in-Aborted-clause-questions
returns-in-Aborted-clause-questions g c =
    let made = c.in-Aborted.ensures in
    asks_there c.args.journal c.in-Ok.planned c.in-Ok.ensures.ready _ _ _ _ made.steps _ _ _ made.questions _ (ap (λ (x : KnownJournalOf). x.events) c.into_known-later.ensures)

pub returns-in-Unexpected-clause-questions_at_end : goal.returns-in-Unexpected-clause-questions_at_end
returns-in-Unexpected-clause-questions_at_end g c =
    let made = c.in-Unexpected.ensures in
    asks_there c.args.journal c.in-Ok.planned c.in-Ok.ensures.ready _ _ _ _ made.steps.went _ _ _ made.questions _ (ap events_in (rw c.into_known-later.ensures at c.into_journal.ensures))

pub returns-in-SourceFault-clause-questions_at_end : goal.returns-in-SourceFault-clause-questions_at_end
returns-in-SourceFault-clause-questions_at_end g c =
    let made = c.in-SourceFault.ensures in
    asks_there c.args.journal c.in-Ok.planned c.in-Ok.ensures.ready _ _ _ _ made.steps _ _ _ made.questions _ (ap events_in (rw c.into_known-later.ensures at c.into_journal-in-SourceFault.ensures))
