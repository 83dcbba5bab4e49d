use Rattle.std.proofs.Common.{true, false, ◌≡◌, ◌≤◌, ◌+◌}
use Rattle.graph_exec.specs.declared.transition.watcher.Heard.TheVariants as heard
use Rattle.graph_exec.specs.Counts.{IsAbortAnswered}
use Rattle.graph_exec.specs.Questions.{AskedBeside}
use Rattle.graph_exec.specs.LastWords.{SourceLasts, WatcherLasts, none_failed}
use Rattle.graph_exec.specs.Inner.Rounds.{asks_left}
use Rattle.graph_exec.specs.Executors.{Went}
use Rattle.graph_exec.specs.Transitions.{Accords, WentAsSaid}
use Rattle.graph_exec.specs.WatchedTransitions.{AreLinesTold, IsShownAll}
use Rattle.graph_exec.proofs.transition.over_source.run_watched.Given as goal

abbrev pub invariant-loop-executor : goal.invariant-loop-executor
invariant-loop-executor g l = record {
  went : Went (g.S.Outcomes.whole l.fn.outcomes) l.fn.executor l.executor (g.S.Outcomes.rest l.fn.outcomes) (g.S.Outcomes.rest l.outcomes);
  asks : g.S.Outcomes.asked l.outcomes + asks_left l.executor ≤ g.S.Outcomes.asked l.fn.outcomes + asks_left l.fn.executor;
  questions : AskedBeside 0 (g.S.Outcomes.asked l.fn.outcomes) (g.S.Outcomes.asked l.outcomes) l.fn.executor.since l.executor.since;
  aborted : IsAbortAnswered l.fn.executor l.executor (g.S.Outcomes.answered l.fn.outcomes) (g.S.Outcomes.answered l.outcomes);
  source : SourceLasts g.S.Outcomes l.fn.outcomes l.outcomes none_failed;
  said : g.S.Outcomes.steady l.fn.outcomes ≡ true → g.S.Outcomes.over l.outcomes ≡ false
      → WentAsSaid l.fn.executor l.executor (g.S.Outcomes.rest l.fn.outcomes) (g.S.Outcomes.rest l.outcomes);
  agrees : Accords (g.S.Outcomes.agrees l.fn.outcomes) l.fn.executor → Accords (g.S.Outcomes.agrees l.outcomes) l.executor;
  told : AreLinesTold (g.V.Watcher.follows l.fn.watcher l.watcher) l.fn.executor l.executor;
  watcher : WatcherLasts g.V.Watcher l.fn.watcher l.watcher heard.Go;
  shown : IsShownAll (g.V.Watcher.shown l.fn.watcher heard.Go) l.fn.executor → IsShownAll (g.V.Watcher.shown l.watcher heard.Go) l.executor;
}

abbrev pub decreases-loop-executor : goal.decreases-loop-executor
decreases-loop-executor g l = asks_left l.executor
