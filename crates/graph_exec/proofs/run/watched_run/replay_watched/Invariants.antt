use Rattle.std.proofs.Common.{◌+◌, IfSome}
use Rattle.cluster_types.specs.Runs.{due}
use Rattle.graph_exec.specs.declared.transition.watcher.Heard.TheVariants as heard
use Rattle.graph_exec.specs.Counts.{RoseBy}
use Rattle.graph_exec.specs.Questions.{AskedBeside}
use Rattle.graph_exec.specs.LastWords.{SourceLasts, WatcherLasts, none_failed}
use Rattle.graph_exec.specs.Replays.{setting, sight}
use Rattle.graph_exec.specs.WatcherLines.{view_between}
use Rattle.graph_exec.specs.Inner.Turns.{CameTo, Serves}
use Rattle.graph_exec.proofs.run.watched_run.replay_watched.Given as goal

abbrev pub invariant-loop-made : goal.invariant-loop-made
invariant-loop-made g l = record {
  came : CameTo (g.V.Watcher.follows l.fn.watcher l.watcher)
      (setting l.fn.cluster l.fn.journal.promotions (g.S.Outcomes.whole l.fn.outcomes) (g.S.Outcomes.steady l.fn.outcomes))
      (due 1 l.fn.journal.events)
      (sight (g.S.Outcomes.rest l.fn.outcomes) (g.S.Outcomes.over l.fn.outcomes))
      (sight (g.S.Outcomes.rest l.outcomes) (g.S.Outcomes.over l.outcomes))
      (due (l.made + 1)) l.known;
  serves : IfSome l.last (Serves l.fn.cluster);
  source : SourceLasts g.S.Outcomes l.fn.outcomes l.outcomes none_failed;
  answers : RoseBy l.made (g.S.Outcomes.answered l.fn.outcomes) (g.S.Outcomes.answered l.outcomes);
  questions : AskedBeside 0 (g.S.Outcomes.asked l.fn.outcomes) (g.S.Outcomes.asked l.outcomes) l.fn.journal.events l.known.events;
  agrees : g.S.Outcomes.agrees l.fn.outcomes l.fn.cluster l.fn.journal.events 0 → g.S.Outcomes.agrees l.outcomes l.fn.cluster l.known.events 0;
  watcher : WatcherLasts g.V.Watcher l.fn.watcher l.watcher heard.Go;
  shown : g.V.Watcher.shown l.fn.watcher heard.Go (view_between l.fn.cluster l.fn.journal.promotions l.fn.journal.events)
      → g.V.Watcher.shown l.watcher heard.Go (view_between l.fn.cluster l.fn.journal.promotions l.known.events);
}
