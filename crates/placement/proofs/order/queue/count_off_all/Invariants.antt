use Rattle.std.proofs.Common.{◌≡◌, ◌+◌, ◌==◌, ℕ, count_by, length, slice_index_or, take}
use Rattle.placement.proofs.order.queue.count_off_all.Given as goal

abbrev pub invariant-loop-position : goal.invariant-loop-position
invariant-loop-position l = record {
  size : length l.counts.items ≡ length l.fn.counts.items;
  less : (x : ℕ) → slice_index_or l.counts.items x 0 + count_by (◌==◌ x) (take l.position-index l.row) ≡ slice_index_or l.fn.counts.items x 0;
}
