use Rattle.cluster_io.proofs.Scans.{feed_in, none_in_rest}
use Rattle.cluster_io.proofs.line_scan.look.Goals as goal

pub line_at-requires-clause-feed : goal.line_at-requires-clause-feed
line_at-requires-clause-feed c =
    feed_in c.args.bounds c.args.held.now c.loop-feed.at c.in-Some.feed c.loop-feed.invariant.looked c.in-Some.ensures

pub rest_of-requires-clause-rest : goal.rest_of-requires-clause-rest
rest_of-requires-clause-rest c =
    none_in_rest c.args.bounds c.args.held.now c.loop-feed.at c.loop-feed.invariant.looked c.in_default.ensures
