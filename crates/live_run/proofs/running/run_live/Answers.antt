use Rattle.std.proofs.Common.{rules}
use Rattle.live_run.specs.LineSources.{outcomes_source, state_of}
use Rattle.live_run.proofs.Reaching.{complete_by, nothing_reached}
use Rattle.live_run.proofs.running.run_live.Goals as goal

pub returns-clause-complete : goal.returns-clause-complete
returns-clause-complete g c =
    complete_by c.args.cluster.now c.args.journal (state_of c.args.outcomes.now).lines.reading (g.S.Source.left (outcomes_source c.run_to_end.new.outcomes)) _ _ _ _
    (g.S.Source.left (outcomes_source c.args.outcomes.now)) c.run_to_end.result c.run_to_end.ensures.reaches c.run_to_end.ensures.reads.cause
    (search rules)

-- there is no memory for what would be held back

pub returns-in_default-clause-reaches : goal.returns-in_default-clause-reaches
returns-in_default-clause-reaches g c =
    nothing_reached c.args.cluster.now c.args.journal (state_of c.args.outcomes.now).lines.reading (g.S.Source.left (outcomes_source c.args.outcomes.now))
    (g.S.Source.left (outcomes_source c.args.outcomes.now)) (g.W.Sink.written c.args.out.now)
