use Rattle.std.proofs.Common.{◌≡◌, ◌≤◌}
use Rattle.graph_exec.specs.declared.transition.watcher.Heard.TheVariants as heard
use Rattle.graph_exec.specs.Counts.{IsAbortAnswered}
use Rattle.graph_exec.specs.LastWords.{SourceLasts, WatcherLasts, none_failed}
use Rattle.graph_exec.specs.Inner.Rounds.{asks_left, begins_left}
use Rattle.graph_exec.specs.Executors.{Went}
use Rattle.graph_exec.specs.Transitions.{Accords, WentAsSaid}
use Rattle.graph_exec.specs.WatchedTransitions.{AreLinesTold, IsShownAll}
use Rattle.graph_exec.proofs.transition.executor.Executor.begin_all.Given as goal

abbrev pub invariant-loop : goal.invariant-loop
invariant-loop g l = record {
  went : Went (g.S.Outcomes.whole l.fn.outcomes) l.fn.self l.self (g.S.Outcomes.rest l.fn.outcomes) (g.S.Outcomes.rest l.outcomes);
  said : WentAsSaid l.fn.self l.self (g.S.Outcomes.rest l.fn.outcomes) (g.S.Outcomes.rest l.outcomes);
  asks : asks_left l.self ≤ asks_left l.fn.self;
  source : SourceLasts g.S.Outcomes l.fn.outcomes l.outcomes none_failed;
  asked : g.S.Outcomes.asked l.outcomes ≡ g.S.Outcomes.asked l.fn.outcomes;
  aborted : IsAbortAnswered l.fn.self l.self (g.S.Outcomes.answered l.fn.outcomes) (g.S.Outcomes.answered l.outcomes);
  agrees : Accords (g.S.Outcomes.agrees l.fn.outcomes) l.fn.self → Accords (g.S.Outcomes.agrees l.outcomes) l.self;
  told : AreLinesTold (g.V.Watcher.follows l.fn.watcher l.watcher) l.fn.self l.self;
  watcher : WatcherLasts g.V.Watcher l.fn.watcher l.watcher heard.Go;
  shown : IsShownAll (g.V.Watcher.shown l.fn.watcher heard.Go) l.fn.self → IsShownAll (g.V.Watcher.shown l.watcher heard.Go) l.self;
}

abbrev pub decreases-loop : goal.decreases-loop
decreases-loop g l = begins_left l.self
