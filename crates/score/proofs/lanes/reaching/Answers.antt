use Rattle.std.proofs.Common.{◌+◌}
use Rattle.score.specs.Choice.{points_at}
use Rattle.score.proofs.ChoiceLaws.{reach_is}
use Rattle.score.proofs.lanes.reaching.Goals as goal

pub returns-clause-each : goal.returns-clause-each
returns-clause-each c = λ k l.
    reach_is _ _ _ (points_at c.args.totals.now (c.args.at + k)) c.args.floor (c.loaded.ensures.each k l) c.above_least.ensures (c.reached.ensures.each k l)
