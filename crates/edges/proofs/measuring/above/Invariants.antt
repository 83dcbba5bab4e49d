use Rattle.std.proofs.Common.{◌≡◌, slice_index_or, take}
use Rattle.edges.specs.LongestChains as longest
use Rattle.edges.proofs.measuring.above.Given as goal

abbrev pub invariant-loop-place : goal.invariant-loop-place
invariant-loop-place l = l.most ≡ longest.above (λ x. slice_index_or l.ways x 0) (take l.place-index l.places)
