use Rattle.placement.proofs.PlacesMore.{Placed}
use Rattle.placement.proofs.order.queue.places_of.Given as goal

abbrev pub invariant-loop-place : goal.invariant-loop-place
invariant-loop-place l = Placed l.positions l.order l.place l.places.items
