use Rattle.std.proofs.Common.{◌≡◌, ◌<◌, All}
use Rattle.std.specs.List.{range_with_len}
use Rattle.planner.proofs.precedence.edge_building.all_places.Given as goal

abbrev pub invariant-loop-place : goal.invariant-loop-place
invariant-loop-place l = (l.places.items ≡ range_with_len 0 l.place) × All (λ place. place < l.count) l.places.items
