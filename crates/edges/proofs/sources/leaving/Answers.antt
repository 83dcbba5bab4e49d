use Rattle.std.proofs.Common.{arith, ◌≡◌, ◌<◌, ◌+◌, length, slice_index_or, ◌∙◌}
use Rattle.std.proofs.lemmas.List.{get_or_read, length-set}
use Rattle.edges.proofs.SourceRows.{ends_at, few_from, counted_more}
use Rattle.edges.proofs.sources.leaving.Goals as goal

pub index_mut-requires : goal.index_mut-requires
index_mut-requires c =
    let w = ends_at c.args.positions c.args.edges.now c.loop-edge.edge-index (record { before = 0; after = 0 }) c.requires
    c.loop-edge-test.true in
    omega arith

pub overflow_add-index_mut : goal.overflow_add-index_mut
overflow_add-index_mut c =
    let at = (slice_index_or c.args.edges.now c.loop-edge.edge-index (record { before = 0; after = 0 })).before in
    let w = ends_at c.args.positions c.args.edges.now c.loop-edge.edge-index (record { before = 0; after = 0 }) c.requires
    c.loop-edge-test.true in
    let read : c.index_mut.result.now ≡ slice_index_or c.loop-edge.counts.items at 0
    = get_or_read c.loop-edge.counts.items at c.index_mut.result.now (let s = c.loop-edge.invariant.size in omega arith)
    c.index_mut.ensures.value 0 in
    let counted = c.loop-edge.invariant.counted at w.0 in
    let few = few_from c.args.edges.now c.loop-edge.edge-index at in
    omega arith

pub loop-edge-preserved : goal.loop-edge-preserved
loop-edge-preserved c =
    let at = (slice_index_or c.args.edges.now c.loop-edge.edge-index (record { before = 0; after = 0 })).before in
    let w = ends_at c.args.positions c.args.edges.now c.loop-edge.edge-index (record { before = 0; after = 0 }) c.requires
    c.loop-edge-test.true in
    let s = c.loop-edge.invariant.size in
    let within : at < length c.loop-edge.counts.items = omega arith in
    let read : c.index_mut.result.now ≡ slice_index_or c.loop-edge.counts.items at 0
    = get_or_read c.loop-edge.counts.items at c.index_mut.result.now within c.index_mut.ensures.value 0 in
    record {
      size = length-set c.loop-edge.counts.items at (c.index_mut.result.now + 1) ∙ s;
      counted =
          λ x lt. counted_more c.loop-edge.counts.items c.args.edges.now c.loop-edge.edge-index (record { before = 0; after = 0 })
          c.loop-edge-test.true
          within (c.index_mut.result.now + 1) (omega arith) x (c.loop-edge.invariant.counted x lt);
    }
