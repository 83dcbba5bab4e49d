use Rattle.std.proofs.Common.{slice_index_or}
use Rattle.std.proofs.lemmas.List.Elements.{Contains-get_or}
use Rattle.placement.proofs.order.queue.admit.Goals as goal

pub is_free-free-requires-clause-made : goal.is_free-free-requires-clause-made
is_free-free-requires-clause-made c =
    c.requires.made (slice_index_or c.args.row.now c.loop-position.position-index 0) (Contains-get_or c.args.row.now c.loop-position.position-index 0 c.loop-position-test.true)

pub is_free-free-requires-clause-counts : goal.is_free-free-requires-clause-counts
is_free-free-requires-clause-counts c =
    c.requires.counts (slice_index_or c.args.row.now c.loop-position.position-index 0) (Contains-get_or c.args.row.now c.loop-position.position-index 0 c.loop-position-test.true)
