use Rattle.std.proofs.Common.{ap}
use Rattle.live_run.specs.Courses.{SourceState}
use Rattle.sim_core.proofs.LiveSays.{reaches_by}
use Rattle.sim_core.proofs.live.run_behind.Goals as goal

pub returns-clause-reaches : goal.returns-clause-reaches
returns-clause-reaches g c =
    reaches_by g.S.Source.left _ _ _ _ _ _ _ _ _ _ _ _ c.over-answers.ensures.source c.into_source.ensures.source
    (ap (λ (s : SourceState). s.lines.reading) c.over-answers.ensures.standing) c.cluster.ensures.value c.run_live-end.ensures.reaches
