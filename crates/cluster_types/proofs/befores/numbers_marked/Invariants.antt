use Rattle.std.proofs.Common.{◌≡◌, ◌-◌, filter}
use Rattle.std.specs.List.{range_with_len}
use Rattle.listed.specs.Flags.{is_marked}
use Rattle.cluster_types.proofs.befores.numbers_marked.Given as goal

abbrev pub invariant-loop-place : goal.invariant-loop-place
invariant-loop-place l = l.numbers.items ≡ filter (λ k. is_marked l.marks (k - 1)) (range_with_len 1 l.place)
