use Rattle.std.proofs.Common.{arith, ap, length, ◌∙◌}
use Rattle.graph_exec.specs.KnownJournals.{KnownJournalOf}
use Rattle.run_safety.proofs.SafeRuns.{safe_run}
use Rattle.graph_exec.proofs.Entered.{asks_nothing, asks_then}
use Rattle.graph_exec.proofs.Lasts.{source_open, source_same, source_then}
use Rattle.graph_exec.proofs.LastsNext.{source_kept}
use Rattle.graph_exec.proofs.Questions.{asks_kept, asks_on}
use Rattle.graph_exec.proofs.KeptEnds.{agrees_kept, expected_kept, kept_as, kept_at_rest, kept_in_order, kept_plans, most_in_order, most_kept, most_plans, starts_kept}
use Rattle.graph_exec.proofs.run.kept_run.replay.Goals as goal

-- no memory is left

pub returns-in_default-clause-source : goal.returns-in_default-clause-source
returns-in_default-clause-source g c = source_open g.S.Outcomes _ _ _ (source_same g.S.Outcomes g.met.S.Outcomes.from_itself _)

-- one transition after the other

pub loop-made-init : goal.loop-made-init
loop-made-init g c = record {
  cluster_stays = ap (λ (x : KnownJournalOf). x.cluster) c.in-Ok.ensures.ok;
  promotions_stay = ap (λ (x : KnownJournalOf). x.promotions) c.in-Ok.ensures.ok;
  keeps = starts_kept _ _ _ _ _ c.in-Ok.known c.new-passed.ensures (ap (λ (x : KnownJournalOf). x.events) c.in-Ok.ensures.ok);
  all = ap length c.new-passed.ensures;
  source = source_same g.S.Outcomes g.met.S.Outcomes.from_itself _;
  questions = rw c.in-Ok.ensures.ok (asks_nothing _ _);
  agrees = λ h. rw c.in-Ok.ensures.ok h;
}

pub keep_transition-requires-clause-valid : goal.keep_transition-requires-clause-valid
keep_transition-requires-clause-valid g c = rw c.loop-made.invariant.cluster_stays c.requires.valid

pub keep_transition-requires-clause-at_rest : goal.keep_transition-requires-clause-at_rest
keep_transition-requires-clause-at_rest g c =
    kept_at_rest _ _ _ _ _ _ c.loop-made.known (safe_run _ _ _ c.requires.valid _ _ c.requires.at_rest) c.loop-made.invariant.keeps

pub loop-made-preserved : goal.loop-made-preserved
loop-made-preserved g c =
    let so_far = c.loop-made.invariant in
    let now = c.in-Ok-keep_transition.ensures in
    let all_before = so_far.all in
    let one_more = now.one_more in
    record {
      cluster_stays = now.stays.cluster_stays ∙ so_far.cluster_stays;
      promotions_stay = now.stays.promotions_stay ∙ so_far.promotions_stay;
      keeps = (rw (so_far.cluster_stays, so_far.promotions_stay, so_far.source.whole, so_far.source.steady) at now.goes_on) _ _ so_far.keeps;
      all = omega arith;
      source = source_then g.S.Outcomes g.met.S.Outcomes.from_before g.met.S.Outcomes.said_later _ _ _ _ so_far.source now.source;
      questions = asks_then _ _ _ _ _ _ _ so_far.questions now.questions;
      agrees = λ h. rw so_far.cluster_stays at (now.agrees (rw so_far.cluster_stays (so_far.agrees h)));
    }

-- the run ends on the way

pub returns-in-Err-clause-run : goal.returns-in-Err-clause-run
returns-in-Err-clause-run g c =
    let so_far = c.loop-made.invariant in
    rw c.kept.ensures (kept_as _ _ _ _ _ _ c.in-Err.end ((rw (so_far.cluster_stays, so_far.promotions_stay, so_far.source.whole, so_far.source.steady) at c.in-Err.ensures.ends) _ _ so_far.keeps))

pub returns-in-Err-clause-plans : goal.returns-in-Err-clause-plans
returns-in-Err-clause-plans g c =
    let so_far = c.loop-made.invariant in
    let all_before = so_far.all in
    let few = c.in-Err.ensures.few in
    rw c.kept.ensures
    (kept_plans _ _ _ _ _ _ (omega arith) c.in-Err.end ((rw (so_far.cluster_stays, so_far.promotions_stay, so_far.source.whole, so_far.source.steady) at c.in-Err.ensures.ends) _ _ so_far.keeps))

pub returns-in-Err-clause-kept : goal.returns-in-Err-clause-kept
returns-in-Err-clause-kept g c =
    let so_far = c.loop-made.invariant in
    rw c.kept.ensures
    (kept_in_order _ _ _ _ _ (safe_run _ _ _ c.requires.valid _ _ c.requires.at_rest) c.in-Err.end
    ((rw (so_far.cluster_stays, so_far.promotions_stay, so_far.source.whole, so_far.source.steady) at c.in-Err.ensures.ends) _ _ so_far.keeps))

pub returns-in-Err-clause-source : goal.returns-in-Err-clause-source
returns-in-Err-clause-source g c =
    rw c.kept.ensures
    (source_kept g.S.Outcomes _ _ _ c.in-Err.end (source_then g.S.Outcomes g.met.S.Outcomes.from_before g.met.S.Outcomes.said_later _ _ _ _ c.loop-made.invariant.source c.in-Err.ensures.source))

pub returns-in-Err-clause-agrees : goal.returns-in-Err-clause-agrees
returns-in-Err-clause-agrees g c h =
    let so_far = c.loop-made.invariant in
    rw c.kept.ensures
    (agrees_kept _ (g.S.Outcomes.agrees c.keep_transition.new.outcomes) c.args.cluster.now c.in-Err.end (rw so_far.cluster_stays at (c.in-Err.ensures.agrees_at_end (rw so_far.cluster_stays (so_far.agrees h)))))

pub returns-in-Err-clause-fitting : goal.returns-in-Err-clause-fitting
returns-in-Err-clause-fitting g c careful h =
    let so_far = c.loop-made.invariant in
    rw c.kept.ensures (expected_kept _ c.in-Err.end (c.in-Err.ensures.fitting (so_far.source.careful ∙ careful) (rw so_far.cluster_stays (so_far.agrees h))))

pub returns-in-Err-clause-questions : goal.returns-in-Err-clause-questions
returns-in-Err-clause-questions g c =
    let now = g.S.Outcomes.asked c.keep_transition.new.outcomes in
    rw c.kept.ensures
    (asks_kept (g.S.Outcomes.asked c.args.outcomes.now) now c.args.journal.events _ c.in-Err.end
    (asks_on _ _ now _ _ c.loop-made.invariant.questions c.in-Err.end c.in-Err.ensures.questions_at_end))

-- as many transitions were made as are allowed

pub returns-clause-run : goal.returns-clause-run
returns-clause-run g c =
    let so_far = c.loop-made.invariant in
    let all_before = so_far.all in
    most_kept _ _ _ _ _ _ c.loop-made.known so_far.keeps _ (omega arith) _ c.into_journal-journal.ensures

pub returns-clause-plans : goal.returns-clause-plans
returns-clause-plans g c =
    let so_far = c.loop-made.invariant in
    let all_before = so_far.all in
    most_plans _ _ _ _ _ _ c.loop-made.known so_far.keeps _ (omega arith) _ c.into_journal-journal.ensures

pub returns-clause-kept : goal.returns-clause-kept
returns-clause-kept g c =
    let so_far = c.loop-made.invariant in
    let all_before = so_far.all in
    most_in_order _ _ _ _ _ _ c.loop-made.known so_far.keeps c.args.most (omega arith) _ c.into_journal-journal.ensures (safe_run _ _ _ c.requires.valid _ _ c.requires.at_rest)
    so_far.promotions_stay

pub returns-clause-agrees : goal.returns-clause-agrees
returns-clause-agrees g c h = rw c.into_journal-journal.ensures (c.loop-made.invariant.agrees h)

pub returns-clause-questions : goal.returns-clause-questions
returns-clause-questions g c = rw c.into_journal-journal.ensures c.loop-made.invariant.questions
