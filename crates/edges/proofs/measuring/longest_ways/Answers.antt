use Rattle.std.proofs.Common.{arith, ◌≡◌, ◌<◌, ◌-◌, [], slice_index_or, ◌∙◌, suc}
use Rattle.std.proofs.lemmas.List.{get_or_read}
use Rattle.edges.specs.Sources.{sources_of}
use Rattle.edges.specs.Inner.Clearing.{IsBackward}
use Rattle.edges.proofs.BackwardSteps.{AreMeasured, all_measured, backward_of_free, measured_from, measured_more, next_length, position_within, sources_within}
use Rattle.edges.proofs.measuring.longest_ways.Goals as goal

pub index-requires : goal.index-requires
index-requires c =
    let order = c.in_ok-order.order.items in
    let b : IsBackward c.args.positions c.args.edges.now order
    = backward_of_free c.args.positions c.args.edges.now order c.requires.free c.in_ok-order.ensures in
    let k = c.loop-left.left - 1 in
    let size = b.size in
    let inside = c.loop-left.invariant.left_within in
    let lt : k < c.args.positions = omega arith in
    let read : c.index-position.result.now ≡ slice_index_or order k 0
    = get_or_read order k c.index-position.result.now (omega arith) c.index-position.ensures 0 in
    let within = position_within c.args.positions c.args.edges.now c.requires.ends c.requires.free order b k lt in
    let rows = c.in_ok-sources.ensures.size in
    omega arith

pub above-most-requires-clause-within : goal.above-most-requires-clause-within
above-most-requires-clause-within c =
    let order = c.in_ok-order.order.items in
    let b : IsBackward c.args.positions c.args.edges.now order
    = backward_of_free c.args.positions c.args.edges.now order c.requires.free c.in_ok-order.ensures in
    let k = c.loop-left.left - 1 in
    let size = b.size in
    let inside = c.loop-left.invariant.left_within in
    let lt : k < c.args.positions = omega arith in
    let read : c.index-position.result.now ≡ slice_index_or order k 0
    = get_or_read order k c.index-position.result.now (omega arith) c.index-position.ensures 0 in
    let within = position_within c.args.positions c.args.edges.now c.requires.ends c.requires.free order b k lt in
    let rows = c.in_ok-sources.ensures.size in
    let at : c.index.result.now ≡ slice_index_or c.in_ok-sources.sources.items c.index-position.result.now []
    = get_or_read c.in_ok-sources.sources.items c.index-position.result.now c.index.result.now (omega arith) c.index.ensures [] in
    let row : c.as_slice-in-loop-left.result.now ≡ sources_of c.args.edges.now (slice_index_or order k 0)
    = c.as_slice-in-loop-left.ensures ∙ (rw read at at) ∙ c.in_ok-sources.ensures.sources (slice_index_or order k 0) within in
    let m : AreMeasured c.args.positions c.args.edges.now order (suc k) c.loop-left.ways.items
    = measured_from c.args.positions c.args.edges.now order c.loop-left.ways.items c.loop-left.left k (omega arith) c.loop-left.invariant in
    rw (row, c.as_slice.ensures.value)
    (sources_within c.args.positions c.args.edges.now c.requires.ends c.requires.free order b k c.loop-left.ways.items lt m)

pub index_mut-requires : goal.index_mut-requires
index_mut-requires c =
    let order = c.in_ok-order.order.items in
    let b : IsBackward c.args.positions c.args.edges.now order
    = backward_of_free c.args.positions c.args.edges.now order c.requires.free c.in_ok-order.ensures in
    let k = c.loop-left.left - 1 in
    let size = b.size in
    let inside = c.loop-left.invariant.left_within in
    let lt : k < c.args.positions = omega arith in
    let read : c.index-position.result.now ≡ slice_index_or order k 0
    = get_or_read order k c.index-position.result.now (omega arith) c.index-position.ensures 0 in
    let within = position_within c.args.positions c.args.edges.now c.requires.ends c.requires.free order b k lt in
    let ways = c.loop-left.invariant.size in
    omega arith

pub loop-left-preserved : goal.loop-left-preserved
loop-left-preserved c =
    let order = c.in_ok-order.order.items in
    let b : IsBackward c.args.positions c.args.edges.now order
    = backward_of_free c.args.positions c.args.edges.now order c.requires.free c.in_ok-order.ensures in
    let k = c.loop-left.left - 1 in
    let ways = c.loop-left.ways.items in
    let size = b.size in
    let inside = c.loop-left.invariant.left_within in
    let lt : k < c.args.positions = omega arith in
    let read : c.index-position.result.now ≡ slice_index_or order k 0
    = get_or_read order k c.index-position.result.now (omega arith) c.index-position.ensures 0 in
    let within = position_within c.args.positions c.args.edges.now c.requires.ends c.requires.free order b k lt in
    let rows = c.in_ok-sources.ensures.size in
    let at : c.index.result.now ≡ slice_index_or c.in_ok-sources.sources.items c.index-position.result.now []
    = get_or_read c.in_ok-sources.sources.items c.index-position.result.now c.index.result.now (omega arith) c.index.ensures [] in
    let row : c.as_slice-in-loop-left.result.now ≡ sources_of c.args.edges.now (slice_index_or order k 0)
    = c.as_slice-in-loop-left.ensures ∙ (rw read at at) ∙ c.in_ok-sources.ensures.sources (slice_index_or order k 0) within in
    let m : AreMeasured c.args.positions c.args.edges.now order (suc k) ways
    = measured_from c.args.positions c.args.edges.now order ways c.loop-left.left k (omega arith) c.loop-left.invariant in
    let most = rw (row, c.as_slice.ensures.value) at c.above-most.ensures in
    rw read (measured_more c.args.positions c.args.edges.now c.requires.ends c.requires.free order b k ways lt m c.above-most.result
    (most ∙ next_length c.args.positions c.args.edges.now c.requires.ends c.requires.free order b k ways lt m))

pub returns-clause-longest : goal.returns-clause-longest
returns-clause-longest c =
    let order = c.in_ok-order.order.items in
    let b : IsBackward c.args.positions c.args.edges.now order
    = backward_of_free c.args.positions c.args.edges.now order c.requires.free c.in_ok-order.ensures in
    let none : c.loop-left.left ≡ 0 = omega arith in
    let m : AreMeasured c.args.positions c.args.edges.now order 0 c.loop-left.ways.items = rw none at c.loop-left.invariant in
    all_measured c.args.positions c.args.edges.now c.requires.ends c.requires.free order b c.loop-left.ways.items m
