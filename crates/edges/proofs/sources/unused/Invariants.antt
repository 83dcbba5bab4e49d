use Rattle.std.proofs.Common.{◌≡◌, ◌==◌, filter, slice_index_or}
use Rattle.std.specs.List.{range_with_len}
use Rattle.edges.proofs.sources.unused.Given as goal

abbrev pub invariant-loop-position : goal.invariant-loop-position
invariant-loop-position l = l.unused.items ≡ filter (λ x. slice_index_or l.counts x 0 == 0) (range_with_len 0 l.position)
