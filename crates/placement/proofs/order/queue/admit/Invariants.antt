use Rattle.std.proofs.Common.{◌≡◌, ◌&&◌, ◌||◌, ℕ, false, length, slice_index_or, take}
use Rattle.std.specs.List.{list_any}
use Rattle.placement.specs.Inner.Queueing.{has_place, is_free}
use Rattle.placement.proofs.order.queue.admit.Given as goal

abbrev pub invariant-loop-position : goal.invariant-loop-position
invariant-loop-position l = record {
  size : length l.ready ≡ length l.fn.ready;
  ready : (p : ℕ) → slice_index_or l.ready p false
      ≡ (slice_index_or l.fn.ready p false || list_any (λ x. is_free l.made l.counts x && has_place l.places x p) (take l.position-index l.row));
}
