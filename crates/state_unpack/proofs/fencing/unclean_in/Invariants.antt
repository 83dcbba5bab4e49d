use Rattle.std.proofs.Common.{◌≡◌, false, filter, slice_get}
use Rattle.std.specs.List.{range_with_len}
use Rattle.std.specs.Option.{option_map_or}
use Rattle.cluster_types.specs.NodeStates.{is_unclean_state}
use Rattle.state_unpack.proofs.fencing.unclean_in.Given as goal

abbrev pub invariant-loop-node : goal.invariant-loop-node
invariant-loop-node l = l.found.items ≡ filter (λ n. option_map_or is_unclean_state (slice_get l.nodes n) false) (range_with_len 0 l.node)
