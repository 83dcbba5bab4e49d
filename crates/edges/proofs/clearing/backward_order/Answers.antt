use Rattle.std.proofs.Common.{arith, ◌≡◌, ◌<◌, ◌+◌, [], slice_index_or, length, ◌∙◌}
use Rattle.std.proofs.lemmas.List.{get_or_read}
use Rattle.edges.specs.Sources.{sources_of}
use Rattle.edges.proofs.Endings.{cleared_once_stuck, few_cleared}
use Rattle.edges.proofs.Members.{has_at}
use Rattle.edges.proofs.Steps.{taken_next, enough_next}
use Rattle.edges.proofs.clearing.backward_order.Goals as goal

pub index-requires : goal.index-requires
index-requires c =
    let taken = c.loop-taken.taken in
    let waiting = c.loop-taken.clearing.waiting.items in
    let cleared = c.loop-taken.clearing.cleared.items in
    let e = c.loop-taken.invariant.enough in
    let left : taken < length cleared = omega arith in
    let read : c.index-position.result.now ≡ slice_index_or cleared taken 0
    = get_or_read cleared taken c.index-position.result.now left c.index-position.ensures 0 in
    let within : slice_index_or cleared taken 0 < c.args.positions
    = c.loop-taken.invariant.below (slice_index_or cleared taken 0) (has_at cleared taken left) in
    let size = c.in_ok-sources.ensures.size in
    omega arith

pub count_off_all-requires : goal.count_off_all-requires
count_off_all-requires c =
    let taken = c.loop-taken.taken in
    let waiting = c.loop-taken.clearing.waiting.items in
    let cleared = c.loop-taken.clearing.cleared.items in
    let e = c.loop-taken.invariant.enough in
    let left : taken < length cleared = omega arith in
    let read : c.index-position.result.now ≡ slice_index_or cleared taken 0
    = get_or_read cleared taken c.index-position.result.now left c.index-position.ensures 0 in
    let within : slice_index_or cleared taken 0 < c.args.positions
    = c.loop-taken.invariant.below (slice_index_or cleared taken 0) (has_at cleared taken left) in
    let size = c.in_ok-sources.ensures.size in
    let at : c.index.result.now ≡ slice_index_or c.in_ok-sources.sources.items c.index-position.result.now []
    = get_or_read c.in_ok-sources.sources.items c.index-position.result.now c.index.result.now (omega arith) c.index.ensures [] in
    let row : c.as_slice.result.now ≡ sources_of c.args.edges.now (slice_index_or cleared taken 0)
    = c.as_slice.ensures ∙ (rw read at at) ∙ c.in_ok-sources.ensures.sources (slice_index_or cleared taken 0) within in
    rw row (enough_next c.args.positions c.args.edges.now c.requires taken waiting cleared left c.loop-taken.invariant)

pub loop-taken-preserved : goal.loop-taken-preserved
loop-taken-preserved c =
    let taken = c.loop-taken.taken in
    let waiting = c.loop-taken.clearing.waiting.items in
    let cleared = c.loop-taken.clearing.cleared.items in
    let e = c.loop-taken.invariant.enough in
    let left : taken < length cleared = omega arith in
    let read : c.index-position.result.now ≡ slice_index_or cleared taken 0
    = get_or_read cleared taken c.index-position.result.now left c.index-position.ensures 0 in
    let within : slice_index_or cleared taken 0 < c.args.positions
    = c.loop-taken.invariant.below (slice_index_or cleared taken 0) (has_at cleared taken left) in
    let size = c.in_ok-sources.ensures.size in
    let at : c.index.result.now ≡ slice_index_or c.in_ok-sources.sources.items c.index-position.result.now []
    = get_or_read c.in_ok-sources.sources.items c.index-position.result.now c.index.result.now (omega arith) c.index.ensures [] in
    let row : c.as_slice.result.now ≡ sources_of c.args.edges.now (slice_index_or cleared taken 0)
    = c.as_slice.ensures ∙ (rw read at at) ∙ c.in_ok-sources.ensures.sources (slice_index_or cleared taken 0) within in
    let next = taken_next c.args.positions c.args.edges.now taken waiting cleared left c.loop-taken.invariant in
    c.in_ok-count_off_all.ensures c.args.positions (taken + 1) c.args.edges.now (rw row next)

pub returns : goal.returns
returns c =
    cleared_once_stuck c.args.positions c.args.edges.now c.requires c.loop-taken.taken c.loop-taken.clearing.waiting.items
    c.loop-taken.clearing.cleared.items c.loop-taken.invariant (omega arith)

pub loop-taken-smaller : goal.loop-taken-smaller
loop-taken-smaller c =
    let few = few_cleared c.args.positions c.args.edges.now c.requires c.loop-taken.taken c.loop-taken.clearing.waiting.items
    c.loop-taken.clearing.cleared.items c.loop-taken.invariant (omega arith) in
    omega arith
