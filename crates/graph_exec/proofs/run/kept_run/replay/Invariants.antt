use Rattle.std.proofs.Common.{length, ◌≡◌}
use Rattle.graph_exec.specs.Questions.{AskedBeside}
use Rattle.graph_exec.specs.Inner.KeptTransitions.{KeepsTo}
use Rattle.graph_exec.specs.LastWords.{SourceLasts, none_failed}
use Rattle.graph_exec.specs.Replays.{setting}
use Rattle.graph_exec.proofs.run.kept_run.replay.Given as goal

abbrev pub invariant-loop-made : goal.invariant-loop-made
invariant-loop-made g l = record {
  cluster_stays : l.known.cluster ≡ l.fn.cluster;
  promotions_stay : l.known.promotions ≡ l.fn.journal.promotions;
  keeps : KeepsTo (setting l.fn.cluster l.fn.journal.promotions (g.S.Outcomes.whole l.fn.outcomes) (g.S.Outcomes.steady l.fn.outcomes)) l.fn.journal.events
      (g.S.Outcomes.rest l.fn.outcomes) (g.S.Outcomes.rest l.outcomes) (g.S.Outcomes.over l.outcomes) l.passed l.known;
  all : length l.passed ≡ l._made;
  source : SourceLasts g.S.Outcomes l.fn.outcomes l.outcomes none_failed;
  questions : AskedBeside 0 (g.S.Outcomes.asked l.fn.outcomes) (g.S.Outcomes.asked l.outcomes) l.fn.journal.events l.known.events;
  agrees : g.S.Outcomes.agrees l.fn.outcomes l.fn.cluster l.fn.journal.events 0 → g.S.Outcomes.agrees l.outcomes l.fn.cluster l.known.events 0;
}
