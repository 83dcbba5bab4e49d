use Rattle.std.proofs.Common.{arith, ◌≡◌, slice_index_or, length, ◌<◌}
use Rattle.std.proofs.lemmas.List.{get_or_read}
use Rattle.edges.proofs.Filled.{begins_first, begins_next, below_fits}
use Rattle.edges.proofs.rows.beginnings.Goals as goal

pub loop-position-init : goal.loop-position-init
loop-position-init c = begins_first c.args.positions c.args.edges.now c.in_ok-begins.begins.items c.in_ok-begins.ensures.size c.in_ok-begins.ensures.counted

pub overflow_add-below : goal.overflow_add-below
overflow_add-below c =
    let b = c.loop-position.invariant in
    let low : c.loop-position.position < length c.loop-position.begins.items = let s = b.size in omega arith in
    let read : c.index-count.result.now ≡ slice_index_or c.loop-position.begins.items c.loop-position.position 0
    = get_or_read c.loop-position.begins.items c.loop-position.position c.index-count.result.now low c.index-count.ensures 0 in
    let fits = below_fits c.args.positions c.args.edges.now c.loop-position.position c.loop-position.below c.loop-position.begins.items b (omega arith)
    c.index-count.result.now read in
    omega arith

pub loop-position-preserved : goal.loop-position-preserved
loop-position-preserved c =
    let b = c.loop-position.invariant in
    let low : c.loop-position.position < length c.loop-position.begins.items = let s = b.size in omega arith in
    let read : c.index-count.result.now ≡ slice_index_or c.loop-position.begins.items c.loop-position.position 0
    = get_or_read c.loop-position.begins.items c.loop-position.position c.index-count.result.now low c.index-count.ensures 0 in
    begins_next c.args.positions c.args.edges.now c.loop-position.position c.loop-position.below c.loop-position.begins.items b (omega arith)
    c.index-count.result.now read
