use Rattle.std.proofs.Common.{◌≡◌, ◌*◌, ℕ, true, not, count_by, length, Contains}
use Rattle.cluster_types.specs.declared.placement.Decision.{Decision}
use Rattle.cluster_types.specs.Decisions.{Key, is_among}
use Rattle.placement.specs.Inner.Flags.{AreFlags}
use Rattle.placement.specs.Inner.Links.{links_in}
use Rattle.placement.specs.Inner.Queueing.{IsQueue, has_place}
use Rattle.placement.specs.Inner.Turns.{AreSorted, WereMade, slots_of}
use Rattle.placement.proofs.order.ordering.taken.Given as goal

abbrev pub invariant-loop-place : goal.invariant-loop-place
invariant-loop-place l = record {
  queue : IsQueue (links_in l.set.cluster.now l.set.list.items) (length l.set.cluster.now.leaves * 2) l.queue;
  order : l.queue.order.items ≡ slots_of l.sorted;
  placed : (x : ℕ) → Contains l.queue.order.items x → (p : ℕ) × (has_place l.queue.places.items x p ≡ true);
  flags : AreFlags (length l.set.cluster.now.leaves) (is_among l.order.items) l.queue.made.items;
  made : (key : Decision → Key) → AreSorted key l.set.list.items l.sorted → WereMade l.set.cluster.now l.set.list.items key l.order.items;
}

abbrev pub decreases-loop-place : goal.decreases-loop-place
decreases-loop-place l = count_by (λ e. not (is_among l.order.items e)) l.set.list.items
