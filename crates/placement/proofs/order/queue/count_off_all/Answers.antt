use Rattle.std.proofs.Common.{arith, ◌<◌, ℕ, List, slice_index_or, subst, sym}
use Rattle.placement.proofs.CountsOff.{one-left}
use Rattle.placement.proofs.order.queue.count_off_all.Goals as goal

pub count_off-requires : goal.count_off-requires
count_off-requires c =
    let l = c.loop-position in
    let one = one-left c.args.row.now l.position-index c.loop-position-test.true l.counts.items c.args.counts.now.items c.requires l.invariant.less in
    let some : 0 < slice_index_or l.counts.items (slice_index_or c.args.row.now l.position-index 0) 0 = omega arith in
    subst (λ (xs : List ℕ). 0 < slice_index_or xs (slice_index_or c.args.row.now l.position-index 0) 0) (sym c.deref_mut.ensures.value) some
