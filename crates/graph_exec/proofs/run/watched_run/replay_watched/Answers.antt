use Rattle.std.proofs.Common.{arith, ◌≡◌, ◌≤◌, ◌+◌, ap, refl, ◌∙◌}
use Rattle.run_safety.proofs.SafeRuns.{safe_run}
use Rattle.graph_exec.proofs.Aborting.{none_answered, not_most, one_more_answered}
use Rattle.graph_exec.proofs.Entered.{asks_nothing, asks_then}
use Rattle.graph_exec.proofs.Lasts.{source_same, source_then, watcher_same, watcher_then}
use Rattle.graph_exec.proofs.Questions.{asks_on}
use Rattle.graph_exec.proofs.Ready.{comes_behind, ends_behind}
use Rattle.graph_exec.proofs.Whole.{events_in, kept, kept_due, nothing_made, replays, rests, starts, up_to}
use Rattle.graph_exec.proofs.run.watched_run.replay_watched.Goals as goal

-- no memory is left

pub returns-in_default-clause-run : goal.returns-in_default-clause-run
returns-in_default-clause-run g c = nothing_made _ _ (g.met.V.Watcher.from_itself _) _ _ _ _

pub returns-in_default-clause-source : goal.returns-in_default-clause-source
returns-in_default-clause-source g c = source_same g.S.Outcomes g.met.S.Outcomes.from_itself _

pub returns-in_default-clause-watcher : goal.returns-in_default-clause-watcher
returns-in_default-clause-watcher g c = watcher_same g.V.Watcher _

-- one transition after the other

pub loop-made-init : goal.loop-made-init
loop-made-init g c = record {
  came = starts _ (g.met.V.Watcher.from_itself _) _ _ _ _ _ _ _ c.in-Ok.ensures.ok;
  serves = tt;
  source = source_same g.S.Outcomes g.met.S.Outcomes.from_itself _;
  answers = none_answered _;
  questions = rw c.in-Ok.ensures.ok (asks_nothing _ _);
  agrees = λ h. rw c.in-Ok.ensures.ok h;
  watcher = watcher_same g.V.Watcher _;
  shown = λ h. rw c.in-Ok.ensures.ok h;
}

pub make_transition-requires-clause-valid : goal.make_transition-requires-clause-valid
make_transition-requires-clause-valid g c = rw c.loop-made.invariant.came.cluster_stays c.requires.valid

pub make_transition-requires-clause-at_rest : goal.make_transition-requires-clause-at_rest
make_transition-requires-clause-at_rest g c =
    rests _ _ _ _ _ (safe_run _ _ _ c.requires.valid _ _ c.requires.at_rest) _ _ c.loop-made.invariant.came.came

pub make_transition-requires-clause-lines : goal.make_transition-requires-clause-lines
make_transition-requires-clause-lines g c = rw c.loop-made.invariant.came.cluster_stays (c.loop-made.invariant.watcher.same_lines _ c.requires.lines)

pub make_transition-requires-clause-last : goal.make_transition-requires-clause-last
make_transition-requires-clause-last g c = rw c.loop-made.invariant.came.cluster_stays c.loop-made.invariant.serves

pub loop-made-preserved : goal.loop-made-preserved
loop-made-preserved g c =
    let so_far = c.loop-made.invariant in
    let now = c.in-Ok-make_transition.ensures in
    record {
      came = comes_behind _ _ _ (g.met.V.Watcher.from_before _ _ _) _ _ _ _ _ _ _ _ so_far.came.came _ _ so_far.came.cluster_stays so_far.came.promotions_stay _ _ _
          (λ steady h. now.source.over (so_far.source.steady ∙ steady) h) (rw (so_far.source.whole, so_far.source.steady) at now.goes_on);
      serves = rw so_far.came.cluster_stays at now.serves;
      source = source_then g.S.Outcomes g.met.S.Outcomes.from_before g.met.S.Outcomes.said_later _ _ _ _ so_far.source now.source;
      answers = one_more_answered _ _ _ _ so_far.answers now.answer;
      questions = asks_then _ _ _ _ _ _ _ so_far.questions now.questions;
      agrees = λ h. rw so_far.came.cluster_stays at (now.agrees (rw so_far.came.cluster_stays (so_far.agrees h)));
      watcher = watcher_then g.V.Watcher _ _ _ _ so_far.watcher now.watcher;
      shown = λ h. rw (so_far.came.cluster_stays, so_far.came.promotions_stay) at
          (now.shown (rw (so_far.came.cluster_stays, so_far.came.promotions_stay) (so_far.shown h)));
    }

-- the run ends on the way

pub returns-in-Err-clause-run : goal.returns-in-Err-clause-run
returns-in-Err-clause-run g c =
    let so_far = c.loop-made.invariant in
    let within : c.loop-made.made + 1 ≤ c.args.most = omega arith in
    replays _ _ _ _ _ _ (c.loop-made.made + 1) _ within _ (ends_behind _ _ _ (g.met.V.Watcher.from_before _ _ _) _ _ _ _ _ _ _ _ so_far.came.came _ _ so_far.came.cluster_stays so_far.came.promotions_stay _ _ _ (g.met.V.Watcher.stopped_later _ _ _) _ _ so_far.source.over
    (rw (so_far.source.whole, so_far.source.steady) at c.in-Err.ensures.ends))

pub returns-in-Err-clause-kept : goal.returns-in-Err-clause-kept
returns-in-Err-clause-kept g c =
    let so_far = c.loop-made.invariant in
    kept (g.V.Watcher.follows c.args.watcher.now c.make_transition.new.watcher) _ _ _ _ (safe_run _ _ _ c.requires.valid _ _ c.requires.at_rest)
    (g.V.Watcher.stopped c.args.watcher.now c.make_transition.new.watcher) (c.loop-made.made + 1) _
    (ends_behind _ _ _ (g.met.V.Watcher.from_before _ _ _) _ _ _ _ _ _ _ _ so_far.came.came _ _ so_far.came.cluster_stays so_far.came.promotions_stay _ _ _ (g.met.V.Watcher.stopped_later _ _ _) _ _ so_far.source.over
    (rw (so_far.source.whole, so_far.source.steady) at c.in-Err.ensures.ends))

pub returns-in-Err-clause-agrees : goal.returns-in-Err-clause-agrees
returns-in-Err-clause-agrees g c h =
    let so_far = c.loop-made.invariant in
    rw so_far.came.cluster_stays at (c.in-Err.ensures.agrees_at_end (rw so_far.came.cluster_stays (so_far.agrees h)))

pub returns-in-Err-clause-fitting : goal.returns-in-Err-clause-fitting
returns-in-Err-clause-fitting g c careful h =
    let so_far = c.loop-made.invariant in
    c.in-Err.ensures.fitting (so_far.source.careful ∙ careful) (rw so_far.came.cluster_stays (so_far.agrees h))

pub returns-in-Err-clause-source : goal.returns-in-Err-clause-source
returns-in-Err-clause-source g c =
    source_then g.S.Outcomes g.met.S.Outcomes.from_before g.met.S.Outcomes.said_later _ _ _ _ c.loop-made.invariant.source c.in-Err.ensures.source

pub returns-in-Err-clause-watcher : goal.returns-in-Err-clause-watcher
returns-in-Err-clause-watcher g c =
    watcher_then g.V.Watcher _ _ _ _ c.loop-made.invariant.watcher c.in-Err.ensures.watcher

pub returns-in-Err-clause-shown : goal.returns-in-Err-clause-shown
returns-in-Err-clause-shown g c h =
    let so_far = c.loop-made.invariant in
    rw (so_far.came.cluster_stays, so_far.came.promotions_stay) at
    (c.in-Err.ensures.shown_at_end (rw (so_far.came.cluster_stays, so_far.came.promotions_stay) (so_far.shown h)))

pub returns-in-Err-clause-answers : goal.returns-in-Err-clause-answers
returns-in-Err-clause-answers g c = not_most _ _ _ _ _ _ _ c.in-Err.ended _ _ _ c.in-Err.ensures.ends

pub returns-in-Err-clause-questions : goal.returns-in-Err-clause-questions
returns-in-Err-clause-questions g c = asks_on _ _ (g.S.Outcomes.asked c.make_transition.new.outcomes) _ _ c.loop-made.invariant.questions c.in-Err.ended c.in-Err.ensures.questions_at_end

-- as many transitions were made as are allowed

pub returns-clause-run : goal.returns-clause-run
returns-clause-run g c =
    let so_far = c.loop-made.invariant in
    let all : c.loop-made.made ≡ c.args.most = omega arith in
    up_to _ _ _ _ _ _ _ _ _ (ap events_in c.into_journal.ensures) (rw all at so_far.came.came)

pub returns-clause-kept : goal.returns-clause-kept
returns-clause-kept g c =
    let so_far = c.loop-made.invariant in
    rw c.into_journal.ensures
    (kept_due _ _ _ _ _ (safe_run _ _ _ c.requires.valid _ _ c.requires.at_rest) _ _ _ refl so_far.came.promotions_stay so_far.came.came)

pub returns-clause-agrees : goal.returns-clause-agrees
returns-clause-agrees g c h = rw c.into_journal.ensures (c.loop-made.invariant.agrees h)

pub returns-clause-shown : goal.returns-clause-shown
returns-clause-shown g c h = rw c.into_journal.ensures (c.loop-made.invariant.shown h)

pub returns-clause-answers : goal.returns-clause-answers
returns-clause-answers g c =
    let all : c.loop-made.made ≡ c.args.most = omega arith in
    rw all at c.loop-made.invariant.answers

pub returns-clause-questions : goal.returns-clause-questions
returns-clause-questions g c = rw c.into_journal.ensures c.loop-made.invariant.questions
