use Rattle.std.proofs.Common.{arith, ◌≡◌, ◌<◌, ◌+◌, length, slice_index_or, ◌∙◌}
use Rattle.std.proofs.lemmas.List.{get_or_read, length-set}
use Rattle.edges.specs.Rows.{end_of}
use Rattle.edges.specs.Inner.Rows.{no_edge}
use Rattle.edges.proofs.Counted.{end_within, few_at, counted_more}
use Rattle.edges.proofs.side.count_ends.Goals as goal

pub index_mut-requires : goal.index_mut-requires
index_mut-requires c =
    let within = end_within c.args.side c.args.positions c.args.edges.now c.loop-edge.edge-index no_edge c.requires c.loop-edge-test.true in
    let size = c.loop-edge.invariant.size in
    let of = c.of.ensures in
    omega arith

pub overflow_add-index_mut : goal.overflow_add-index_mut
overflow_add-index_mut c =
    let at = end_of c.args.side (slice_index_or c.args.edges.now c.loop-edge.edge-index no_edge) in
    let within = end_within c.args.side c.args.positions c.args.edges.now c.loop-edge.edge-index no_edge c.requires c.loop-edge-test.true in
    let size = c.loop-edge.invariant.size in
    let of = c.of.ensures in
    let read : c.index_mut.result.now ≡ slice_index_or c.loop-edge.counts.items at 0
    = get_or_read c.loop-edge.counts.items at c.index_mut.result.now (omega arith) (rw of at c.index_mut.ensures.value) 0 in
    let counted = c.loop-edge.invariant.counted at within in
    let few = few_at c.args.side c.args.edges.now c.loop-edge.edge-index at in
    omega arith

pub loop-edge-preserved : goal.loop-edge-preserved
loop-edge-preserved c =
    let within = end_within c.args.side c.args.positions c.args.edges.now c.loop-edge.edge-index no_edge c.requires c.loop-edge-test.true in
    let size = c.loop-edge.invariant.size in
    let of = c.of.ensures in
    let low : c.of.result < length c.loop-edge.counts.items = omega arith in
    let read : c.index_mut.result.now ≡ slice_index_or c.loop-edge.counts.items c.of.result 0
    = get_or_read c.loop-edge.counts.items c.of.result c.index_mut.result.now low c.index_mut.ensures.value 0 in
    record {
      size = length-set c.loop-edge.counts.items c.of.result (c.index_mut.result.now + 1) ∙ size;
      counted =
          λ x lt. counted_more c.args.side c.loop-edge.counts.items c.args.edges.now c.loop-edge.edge-index no_edge c.loop-edge-test.true c.of.result of
          low (c.index_mut.result.now + 1) (omega arith) x (c.loop-edge.invariant.counted x lt);
    }
