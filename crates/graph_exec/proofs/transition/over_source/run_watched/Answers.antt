use Rattle.std.proofs.Common.{arith, Some, ap, refl, sym, ◌∙◌}
use Rattle.lemmas.proofs.Booleans.{fails_too}
use Rattle.graph_exec.specs.declared.transition.watcher.Heard.TheVariants as heard
use Rattle.graph_exec.specs.WatchedTransitions.{IsShownAll}
use Rattle.graph_exec.proofs.Aborting.{aborted_on, aborted_then, none_aborted}
use Rattle.graph_exec.proofs.Carrying.{expected_done, gone_done, gone_further, has_ended_now, went_nowhere, went_on}
use Rattle.graph_exec.proofs.Entered.{asks_done, asks_none, asks_nothing, asks_one, asks_then}
use Rattle.graph_exec.proofs.Lasts.{source_done, source_same, source_then, watcher_done, watcher_same, watcher_then}
use Rattle.graph_exec.proofs.Fewer.{asks_most}
use Rattle.graph_exec.proofs.Promised.{ends_well, promised}
use Rattle.graph_exec.proofs.Said.{done_said, going_said, said_nothing, said_on, stopped_said}
use Rattle.graph_exec.proofs.Shown.{done_shown}
use Rattle.graph_exec.proofs.Told.{hears_done, hears_on, told_nothing, told_on}
use Rattle.graph_exec.proofs.transition.over_source.run_watched.Goals as goal

pub loop-executor-init : goal.loop-executor-init
loop-executor-init g c = record {
  went = went_nowhere _ _ _;
  asks = omega arith;
  questions = asks_nothing _ _;
  aborted = none_aborted _ _ _;
  source = source_same g.S.Outcomes g.met.S.Outcomes.from_itself _;
  said = λ steady h. said_nothing _ _;
  agrees = λ h. h;
  told = told_nothing _ (g.met.V.Watcher.from_itself _) _;
  watcher = watcher_same g.V.Watcher _;
  shown = λ h. h;
}

-- the watcher stops at a begin

pub returns-in-Stop-clause-steps : goal.returns-in-Stop-clause-steps
returns-in-Stop-clause-steps g c = went_on _ _ _ _ _ _ _ c.loop-executor.invariant.went (rw c.loop-executor.invariant.source.whole at c.begin_all.ensures.went)

pub returns-in-Stop-clause-promises : goal.returns-in-Stop-clause-promises
returns-in-Stop-clause-promises g c = promised _ c.begin_all.ensures.under_way

pub returns-in-Stop-clause-told : goal.returns-in-Stop-clause-told
returns-in-Stop-clause-told g c =
    hears_on _ _ (g.V.Watcher.follows c.args.watcher.now c.begin_all.new.watcher) (g.met.V.Watcher.from_before _ _ _) _ _ (g.met.V.Watcher.stopped_later _ _ _) _ _ _ _ _ _ _ heard.Stop c.loop-executor.invariant.went c.loop-executor.invariant.told
    (rw c.loop-executor.invariant.source.whole at c.in-Stop.ensures.told)

pub returns-in-Stop-clause-asked : goal.returns-in-Stop-clause-asked
returns-in-Stop-clause-asked g c =
    let most = asks_most c.args.executor.now in
    let so_far = c.loop-executor.invariant.asks in
    let now = c.begin_all.ensures.asked in
    omega arith

pub returns-in-Stop-clause-aborted : goal.returns-in-Stop-clause-aborted
returns-in-Stop-clause-aborted g c =
    let so_far = c.loop-executor.invariant in
    aborted_then _ _ _ _ _ _ so_far.source.answered c.begin_all.ensures.source.answered so_far.aborted c.begin_all.ensures.aborted

pub returns-in-Stop-clause-said : goal.returns-in-Stop-clause-said
returns-in-Stop-clause-said g c steady = stopped_said _ _ _ _ _ _

pub returns-in-Stop-clause-source : goal.returns-in-Stop-clause-source
returns-in-Stop-clause-source g c =
    source_then g.S.Outcomes g.met.S.Outcomes.from_before g.met.S.Outcomes.said_later _ _ _ _ c.loop-executor.invariant.source c.begin_all.ensures.source

pub returns-in-Stop-clause-watcher : goal.returns-in-Stop-clause-watcher
returns-in-Stop-clause-watcher g c =
    watcher_then g.V.Watcher _ _ _ _ c.loop-executor.invariant.watcher c.in-Stop.ensures.watcher

-- nothing is in flight any more

pub end-requires : goal.end-requires
end-requires g c = has_ended_now c.begin_all.new.self (c.in_default.ensures.settled refl) _ c.flight.ensures.pairs (sym c.count.ensures ∙ c.if-count-eq0.true)

pub returns-then-count-eq0-clause-steps : goal.returns-then-count-eq0-clause-steps
returns-then-count-eq0-clause-steps g c =
    gone_done _ _ _ _ _ _ c.end.ensures.done
    (went_on _ _ _ _ _ _ _ c.loop-executor.invariant.went (rw c.loop-executor.invariant.source.whole at c.begin_all.ensures.went))

pub returns-then-count-eq0-clause-promises : goal.returns-then-count-eq0-clause-promises
returns-then-count-eq0-clause-promises g c = promised _ c.begin_all.ensures.under_way

pub returns-then-count-eq0-clause-well : goal.returns-then-count-eq0-clause-well
returns-then-count-eq0-clause-well g c = ends_well _ c.begin_all.ensures.under_way _ c.end.ensures.ends

pub returns-then-count-eq0-clause-asked : goal.returns-then-count-eq0-clause-asked
returns-then-count-eq0-clause-asked g c =
    let most = asks_most c.args.executor.now in
    let so_far = c.loop-executor.invariant.asks in
    let now = c.begin_all.ensures.asked in
    omega arith

pub returns-then-count-eq0-clause-aborted : goal.returns-then-count-eq0-clause-aborted
returns-then-count-eq0-clause-aborted g c =
    let so_far = c.loop-executor.invariant in
    aborted_then _ _ _ _ _ _ so_far.source.answered c.begin_all.ensures.source.answered so_far.aborted c.begin_all.ensures.aborted

pub returns-then-count-eq0-clause-said : goal.returns-then-count-eq0-clause-said
returns-then-count-eq0-clause-said g c steady =
    let begun = c.begin_all.ensures in
    let so_far = c.loop-executor.invariant in
    done_said _ _ _ _ _ _ _ c.end.ensures.done
    (λ open_still. said_on _ _ _ _ _ _ (so_far.said steady (fails_too _ _ (begun.source.over (so_far.source.steady ∙ steady)) open_still)) begun.said)

pub returns-then-count-eq0-clause-fitting : goal.returns-then-count-eq0-clause-fitting
returns-then-count-eq0-clause-fitting g c careful agrees = expected_done _ c.end.ensures.done

pub returns-then-count-eq0-clause-told : goal.returns-then-count-eq0-clause-told
returns-then-count-eq0-clause-told g c =
    hears_done _ _ _ _ _ _ _ _ c.end.ensures.done (told_on _ _ _ (g.met.V.Watcher.from_before _ _ _) _ _ _ c.loop-executor.invariant.told c.in_default.ensures.told)

pub returns-then-count-eq0-clause-source : goal.returns-then-count-eq0-clause-source
returns-then-count-eq0-clause-source g c =
    source_done g.S.Outcomes _ _ _ c.end.ensures.done
    (source_then g.S.Outcomes g.met.S.Outcomes.from_before g.met.S.Outcomes.said_later _ _ _ _ c.loop-executor.invariant.source c.begin_all.ensures.source)

pub returns-then-count-eq0-clause-watcher : goal.returns-then-count-eq0-clause-watcher
returns-then-count-eq0-clause-watcher g c =
    watcher_done g.V.Watcher _ _ _ c.end.ensures.done
    (watcher_then g.V.Watcher _ _ _ _ c.loop-executor.invariant.watcher c.in_default.ensures.watcher)

-- the source has no answer that applies, or the watcher stops at one

pub returns-in-Some-clause-steps : goal.returns-in-Some-clause-steps
returns-in-Some-clause-steps g c =
    gone_further _ _ _ _ _ _ _ _
    (went_on _ _ _ _ _ _ _ c.loop-executor.invariant.went (rw c.loop-executor.invariant.source.whole at c.begin_all.ensures.went))
    (rw (c.begin_all.ensures.source.whole, c.loop-executor.invariant.source.whole) at c.in-Some.ensures.steps)

pub returns-in-Some-clause-promises : goal.returns-in-Some-clause-promises
returns-in-Some-clause-promises g c = promised _ c.go_on.ensures.under_way

pub returns-in-Some-clause-well : goal.returns-in-Some-clause-well
returns-in-Some-clause-well g c = ends_well _ c.go_on.ensures.under_way _ c.in-Some.ensures.end

pub returns-in-Some-clause-asked : goal.returns-in-Some-clause-asked
returns-in-Some-clause-asked g c =
    let most = asks_most c.args.executor.now in
    let so_far = c.loop-executor.invariant.asks in
    let fewer = c.begin_all.ensures.asks in
    let before = c.begin_all.ensures.asked in
    let now = c.in-Some.ensures.asked in
    omega arith

pub returns-in-Some-clause-aborted : goal.returns-in-Some-clause-aborted
returns-in-Some-clause-aborted g c =
    let so_far = c.loop-executor.invariant in
    aborted_on _ _ _ _ _ _ _ _ so_far.source.answered c.begin_all.ensures.source.answered c.in-Some.ensures.source.answered so_far.aborted c.begin_all.ensures.aborted
    c.in-Some.ensures.aborted

pub returns-in-Some-clause-told : goal.returns-in-Some-clause-told
returns-in-Some-clause-told g c =
    hears_on _ _ _ (g.met.V.Watcher.from_before _ _ _) _ _ (g.met.V.Watcher.stopped_later _ _ _) _ _ _ _ _ _ _ _
    (went_on _ _ _ _ _ _ _ c.loop-executor.invariant.went (rw c.loop-executor.invariant.source.whole at c.begin_all.ensures.went))
    (told_on _ _ _ (g.met.V.Watcher.from_before _ _ _) _ _ _ c.loop-executor.invariant.told c.in_default.ensures.told)
    (rw (c.begin_all.ensures.source.whole, c.loop-executor.invariant.source.whole) at c.in-Some.ensures.told)

pub returns-in-Some-clause-said : goal.returns-in-Some-clause-said
returns-in-Some-clause-said g c steady =
    let so_far = c.loop-executor.invariant in
    let begun = c.begin_all.ensures in
    let over = begun.source.over (so_far.source.steady ∙ steady) in
    going_said _ _ _ _ _ _ _ c.in-Some.ensures.going
    (λ fault.
    rw (c.in-Some.ensures.failed (begun.source.steady ∙ so_far.source.steady ∙ steady) (ap Some fault), c.in-Some.ensures.unread (ap Some fault))
    (said_on _ _ _ _ _ _ (so_far.said steady (fails_too _ _ over (c.in-Some.ensures.not_over (ap Some fault)))) begun.said))
    (λ fault. fails_too _ _ (so_far.source.over steady) (fails_too _ _ over (c.in-Some.ensures.not_over (ap Some fault))))

pub returns-in-Some-clause-source : goal.returns-in-Some-clause-source
returns-in-Some-clause-source g c =
    source_then g.S.Outcomes g.met.S.Outcomes.from_before g.met.S.Outcomes.said_later _ _ _ _
    (source_then g.S.Outcomes g.met.S.Outcomes.from_before g.met.S.Outcomes.said_later _ _ _ _ c.loop-executor.invariant.source c.begin_all.ensures.source)
    c.in-Some.ensures.source

pub returns-in-Some-clause-watcher : goal.returns-in-Some-clause-watcher
returns-in-Some-clause-watcher g c =
    watcher_then g.V.Watcher _ _ _ _
    (watcher_then g.V.Watcher _ _ _ _ c.loop-executor.invariant.watcher c.in_default.ensures.watcher)
    c.in-Some.ensures.watcher

-- an answer was taken

pub loop-executor-preserved : goal.loop-executor-preserved
loop-executor-preserved g c =
    let so_far = c.loop-executor.invariant in
    let begun = c.begin_all.ensures in
    let asked = c.in_default-go_on.ensures in
    let asks_before = so_far.asks in
    let asks_begun = begun.asks in
    let asked_begun = begun.asked in
    let asked_now = asked.asked in
    let fewer = asked.on.fewer in
    record {
      went = went_on _ _ _ _ _ _ _ so_far.went
          (went_on _ _ _ _ _ _ _ (rw so_far.source.whole at begun.went) (rw (begun.source.whole, so_far.source.whole) at asked.on.went));
      asks = omega arith;
      questions = asks_then _ _ _ _ _ _ _ so_far.questions
          (asks_then _ _ _ _ _ _ _ (asks_none _ _ _ _ _ _ _ begun.went begun.asked) (asks_one _ _ _ _ _ _ _ asked.on asked_now));
      aborted = aborted_on _ _ _ _ _ _ _ _ so_far.source.answered begun.source.answered asked.source.answered so_far.aborted begun.aborted asked.aborted;
      source = source_then g.S.Outcomes g.met.S.Outcomes.from_before g.met.S.Outcomes.said_later _ _ _ _ so_far.source
          (source_then g.S.Outcomes g.met.S.Outcomes.from_before g.met.S.Outcomes.said_later _ _ _ _ begun.source asked.source);
      said = λ steady open_still.
          let steady_now = begun.source.steady ∙ so_far.source.steady ∙ steady in
          let was_open = fails_too _ _ (asked.source.over steady_now) open_still in
          said_on _ _ _ _ _ _ (so_far.said steady (fails_too _ _ (begun.source.over (so_far.source.steady ∙ steady)) was_open))
          (said_on _ _ _ _ _ _ begun.said (asked.said steady_now open_still));
      agrees = λ h. asked.agrees (begun.agrees (so_far.agrees h));
      told = told_on _ _ _ (g.met.V.Watcher.from_before _ _ _) _ _ _ so_far.told
          (told_on _ _ _ (g.met.V.Watcher.from_before _ _ _) _ _ _ c.in_default.ensures.told asked.told);
      watcher = watcher_then g.V.Watcher _ _ _ _ so_far.watcher
          (watcher_then g.V.Watcher _ _ _ _ c.in_default.ensures.watcher asked.watcher);
      shown = λ h. asked.shown (c.in_default.ensures.shown (so_far.shown h));
    }

-- how often the source was asked

pub returns-in-Stop-clause-questions : goal.returns-in-Stop-clause-questions
returns-in-Stop-clause-questions g c =
    let begun = c.begin_all.ensures in
    asks_then _ _ _ _ _ _ _ c.loop-executor.invariant.questions (asks_none _ _ _ _ _ _ _ begun.went begun.asked)

pub returns-then-count-eq0-clause-questions : goal.returns-then-count-eq0-clause-questions
returns-then-count-eq0-clause-questions g c =
    let begun = c.begin_all.ensures in
    asks_done _ _ _ _ _ c.end.ensures.done (asks_then _ _ _ _ _ _ _ c.loop-executor.invariant.questions (asks_none _ _ _ _ _ _ _ begun.went begun.asked))

pub returns-in-Some-clause-questions : goal.returns-in-Some-clause-questions
returns-in-Some-clause-questions g c =
    let begun = c.begin_all.ensures in
    asks_then _ _ _ _ _ _ _ c.loop-executor.invariant.questions (asks_then _ _ _ _ _ _ _ (asks_none _ _ _ _ _ _ _ begun.went begun.asked) c.in-Some.ensures.questions)

-- what the watcher has been shown

pub returns-in-Stop-clause-shown : goal.returns-in-Stop-clause-shown
returns-in-Stop-clause-shown g c h = c.in-Stop.ensures.shown (c.loop-executor.invariant.shown h)

pub returns-then-count-eq0-clause-shown : goal.returns-then-count-eq0-clause-shown
returns-then-count-eq0-clause-shown g c h = done_shown (λ said r. IsShownAll (g.V.Watcher.shown c.begin_all.new.watcher said) r) _ _ c.end.ensures.done (c.in_default.ensures.shown (c.loop-executor.invariant.shown h))

pub returns-in-Some-clause-shown : goal.returns-in-Some-clause-shown
returns-in-Some-clause-shown g c h = c.in-Some.ensures.shown (c.in_default.ensures.shown (c.loop-executor.invariant.shown h))
