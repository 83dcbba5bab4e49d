use Rattle.std.proofs.Common.{arith, refl, ◌∙◌}
use Rattle.graph_exec.specs.declared.transition.watcher.Heard.TheVariants as heard
use Rattle.graph_exec.proofs.Aborting.{aborted_then, none_aborted}
use Rattle.graph_exec.proofs.Carrying.{went_nowhere, went_on}
use Rattle.graph_exec.proofs.Lasts.{source_same, source_then, watcher_same, watcher_then}
use Rattle.graph_exec.proofs.Said.{said_nothing, said_on}
use Rattle.graph_exec.proofs.Told.{hears_on, told_nothing, told_on}
use Rattle.graph_exec.proofs.transition.executor.Executor.begin_all.Goals as goal

pub loop-init : goal.loop-init
loop-init g c = record {
  went = went_nowhere _ _ _;
  said = said_nothing _ _;
  asks = omega arith;
  source = source_same g.S.Outcomes g.met.S.Outcomes.from_itself _;
  asked = refl;
  aborted = none_aborted _ _ _;
  agrees = λ h. h;
  told = told_nothing _ (g.met.V.Watcher.from_itself _) _;
  watcher = watcher_same g.V.Watcher _;
  shown = λ h. h;
}

pub loop-smaller : goal.loop-smaller
loop-smaller g c = c.in-Some-Go.ensures.on

pub loop-preserved : goal.loop-preserved
loop-preserved g c =
    let so_far = c.loop.invariant in
    let now = c.begin_one.ensures in
    let asks_before = so_far.asks in
    let asks_now = now.asks in
    record {
      went = went_on _ _ _ _ _ _ _ so_far.went (rw so_far.source.whole at now.went);
      said = said_on _ _ _ _ _ _ so_far.said now.said;
      asks = omega arith;
      source = source_then g.S.Outcomes g.met.S.Outcomes.from_before g.met.S.Outcomes.said_later _ _ _ _ so_far.source now.source;
      asked = now.asked ∙ so_far.asked;
      aborted = aborted_then _ _ _ _ _ _ so_far.source.answered now.source.answered so_far.aborted now.aborted;
      agrees = λ h. now.agrees (so_far.agrees h);
      told = told_on _ _ _ (g.met.V.Watcher.from_before _ _ _) _ _ _ so_far.told (rw c.in-Some-Go.field-0-is at c.in-Some-Go.ensures.told);
      watcher = watcher_then g.V.Watcher _ _ _ _ so_far.watcher
          (rw c.in-Some-Go.field-0-is at c.in-Some-Go.ensures.watcher);
      shown = λ h. (rw c.in-Some-Go.field-0-is at c.in-Some-Go.ensures.shown) (so_far.shown h);
    }

-- none may begin any more

pub returns-in-None-clause-went : goal.returns-in-None-clause-went
returns-in-None-clause-went g c = went_on _ _ _ _ _ _ _ c.loop.invariant.went (rw c.loop.invariant.source.whole at c.begin_one.ensures.went)

pub returns-in-None-clause-said : goal.returns-in-None-clause-said
returns-in-None-clause-said g c = said_on _ _ _ _ _ _ c.loop.invariant.said c.begin_one.ensures.said

pub returns-in-None-clause-told : goal.returns-in-None-clause-told
returns-in-None-clause-told g c = told_on _ _ _ (g.met.V.Watcher.from_before _ _ _) _ _ _ c.loop.invariant.told c.in-None.ensures.told

pub returns-in-None-clause-source : goal.returns-in-None-clause-source
returns-in-None-clause-source g c =
    source_then g.S.Outcomes g.met.S.Outcomes.from_before g.met.S.Outcomes.said_later _ _ _ _ c.loop.invariant.source c.begin_one.ensures.source

pub returns-in-None-clause-watcher : goal.returns-in-None-clause-watcher
returns-in-None-clause-watcher g c =
    watcher_then g.V.Watcher _ _ _ _ c.loop.invariant.watcher c.in-None.ensures.watcher

-- the watcher stops

pub returns-in-Some-Stop-clause-went : goal.returns-in-Some-Stop-clause-went
returns-in-Some-Stop-clause-went g c = went_on _ _ _ _ _ _ _ c.loop.invariant.went (rw c.loop.invariant.source.whole at c.begin_one.ensures.went)

pub returns-in-Some-Stop-clause-said : goal.returns-in-Some-Stop-clause-said
returns-in-Some-Stop-clause-said g c = said_on _ _ _ _ _ _ c.loop.invariant.said c.begin_one.ensures.said

pub returns-in-Some-Stop-clause-told : goal.returns-in-Some-Stop-clause-told
returns-in-Some-Stop-clause-told g c =
    hears_on _ _ (g.V.Watcher.follows c.args.watcher.now c.begin_one.new.watcher) (g.met.V.Watcher.from_before _ _ _) _ _ (g.met.V.Watcher.stopped_later _ _ _) _ _ _ _ _ _ _ heard.Stop c.loop.invariant.went c.loop.invariant.told
    (rw (c.loop.invariant.source.whole, c.in-Some-Stop.field-0-is) at c.in-Some-Stop.ensures.told)

pub returns-in-Some-Stop-clause-source : goal.returns-in-Some-Stop-clause-source
returns-in-Some-Stop-clause-source g c =
    source_then g.S.Outcomes g.met.S.Outcomes.from_before g.met.S.Outcomes.said_later _ _ _ _ c.loop.invariant.source c.begin_one.ensures.source

pub returns-in-Some-Stop-clause-watcher : goal.returns-in-Some-Stop-clause-watcher
returns-in-Some-Stop-clause-watcher g c =
    watcher_then g.V.Watcher _ _ _ _ c.loop.invariant.watcher
    (rw c.in-Some-Stop.field-0-is at c.in-Some-Stop.ensures.watcher)

-- what the watcher has been shown

pub returns-in-None-clause-shown : goal.returns-in-None-clause-shown
returns-in-None-clause-shown g c h = c.in-None.ensures.shown (c.loop.invariant.shown h)

pub returns-in-Some-Stop-clause-shown : goal.returns-in-Some-Stop-clause-shown
returns-in-Some-Stop-clause-shown g c h = (rw c.in-Some-Stop.field-0-is at c.in-Some-Stop.ensures.shown) (c.loop.invariant.shown h)

-- nothing aborts it

pub returns-in-None-clause-aborted : goal.returns-in-None-clause-aborted
returns-in-None-clause-aborted g c =
    aborted_then _ _ _ _ _ _ c.loop.invariant.source.answered c.begin_one.ensures.source.answered c.loop.invariant.aborted c.begin_one.ensures.aborted

pub returns-in-Some-Stop-clause-aborted : goal.returns-in-Some-Stop-clause-aborted
returns-in-Some-Stop-clause-aborted g c =
    aborted_then _ _ _ _ _ _ c.loop.invariant.source.answered c.begin_one.ensures.source.answered c.loop.invariant.aborted c.begin_one.ensures.aborted
