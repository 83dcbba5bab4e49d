use Rattle.std.proofs.Common.{arith, ◌≡◌, ◌<◌, ◌+◌, ◌∷◌, length, drop, slice_index_or, ap, ◌∙◌}
use Rattle.std.proofs.lemmas.List.{get_or_read, drop_more}
use Rattle.edges.specs.Rows.{edge_targets_of}
use Rattle.edges.proofs.Members.{has_at}
use Rattle.edges.proofs.Filled.{target_lists, targets_at}
use Rattle.graph_exec.proofs.QueueSteps.{taken_next, counted_off, p_room}
use Rattle.graph_exec.proofs.transition.queue.Queue.take.Goals as goal

pub row-target-items-requires : goal.row-target-items-requires
row-target-items-requires c =
    let cleared = c.args.self.now.cleared.items in
    let read : c.index-position.result.now ≡ slice_index_or cleared c.args.taken 0
    = get_or_read cleared c.args.taken c.index-position.result.now c.requires.is_one c.index-position.ensures 0 in
    let within = c.requires.clears.below (slice_index_or cleared c.args.taken 0) (has_at cleared c.args.taken c.requires.is_one) in
    let size : length c.args.rows.now ≡ c.args.graph.now.edges.positions
    = ap length c.requires.rows ∙ target_lists c.args.graph.now.edges.positions c.args.graph.now.edges.list in
    omega arith

pub loop-target-init : goal.loop-target-init
loop-target-init c =
    let cleared = c.args.self.now.cleared.items in
    let read : c.index-position.result.now ≡ slice_index_or cleared c.args.taken 0
    = get_or_read cleared c.args.taken c.index-position.result.now c.requires.is_one c.index-position.ensures 0 in
    let within = c.requires.clears.below (slice_index_or cleared c.args.taken 0) (has_at cleared c.args.taken c.requires.is_one) in
    let is = targets_at c.args.graph.now.edges.positions c.args.graph.now.edges.list (slice_index_or cleared c.args.taken 0) within in
    let row : c.row-target-items.result.now ≡ edge_targets_of c.args.graph.now.edges.list (slice_index_or cleared c.args.taken 0)
    = (rw (read, c.requires.rows) at c.row-target-items.ensures) ∙ is in
    let next = taken_next c.args.graph.now c.args.self.now.begun.items c.args.self.now.succeeded.items c.args.self.now.ready c.args.taken
    c.args.self.now.left.items cleared c.requires.is_one c.requires.clears c.requires.graph in
    record { clears = rw row next; begun = cc; succeeded = cc; room = cc }

pub count_off-requires-clause-room : goal.count_off-requires-clause-room
count_off-requires-clause-room c =
    let i = c.loop-target.target-index in
    let items = c.row-target-items.result.now in
    let p = slice_index_or items i 0 in
    let more : drop i items ≡ p ∷ drop (i + 1) items = drop_more items i 0 c.loop-target-test.true in
    let q = c.loop-target.self in
    let few : length q.cleared.items < c.args.graph.now.edges.positions
    = p_room c.args.graph.now q.begun.items q.succeeded.items q.ready (c.args.taken + 1) p (drop (i + 1) items) q.left.items q.cleared.items
    (rw more at c.loop-target.invariant.clears) in
    let room = c.loop-target.invariant.room in
    omega arith

pub loop-target-preserved : goal.loop-target-preserved
loop-target-preserved c =
    let i = c.loop-target.target-index in
    let items = c.row-target-items.result.now in
    let p = slice_index_or items i 0 in
    let more : drop i items ≡ p ∷ drop (i + 1) items = drop_more items i 0 c.loop-target-test.true in
    let q = c.loop-target.self in
    let off = counted_off c.args.graph.now q.begun.items q.succeeded.items q.ready (c.args.taken + 1) p (drop (i + 1) items) q.left.items q.cleared.items
    (rw more at c.loop-target.invariant.clears) in
    record {
      clears = rw (c.count_off.ensures.left, c.count_off.ensures.cleared, c.count_off.ensures.ready, c.count_off.ensures.begun, c.count_off.ensures.succeeded, c.count-actions.ensures) off;
      begun = cc;
      succeeded = cc;
      room = cc;
    }
