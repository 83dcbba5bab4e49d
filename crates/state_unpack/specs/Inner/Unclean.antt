-- Which nodes are unclean, by the states of some.
use Rattle.std.specs.Prelude.{ℕ, false, List, length, filter, slice_get}
use Rattle.std.specs.List.{range_with_len}
use Rattle.std.specs.Option.{option_map_or}
use Rattle.cluster_types.specs.declared.states.NodeState.{NodeState}
use Rattle.cluster_types.specs.NodeStates.{is_unclean_state}

-- the nodes that are unclean, of the states of some
abbrev pub unclean_in : List NodeState → List ℕ
unclean_in nodes = filter (λ n. option_map_or is_unclean_state (slice_get nodes n) false) (range_with_len 0 (length nodes))
