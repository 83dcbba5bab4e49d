-- What a journal tells of a node (Pacemaker Explained, "Fencing").
use Rattle.std.specs.Prelude.{ℕ, Bool, true, false, not, ◌&&◌, if◌then◌else◌, Option, Some, None, List, length, slice_get}
use Rattle.std.specs.List.{list_any, range_with_len}
use Rattle.std.specs.Option.{option_map_or}
use Rattle.cluster_types.specs.declared.cluster.Cluster.{Cluster}
use Rattle.cluster_types.specs.declared.journal.Event.{Event}
use Rattle.cluster_types.specs.declared.journal.Event.TheVariants.{Ended}
use Rattle.cluster_types.specs.declared.node.Node.{Node}
use Rattle.cluster_types.specs.declared.states.NodeState.{NodeState}
use Rattle.cluster_types.specs.declared.states.NodeState.TheVariants.{Online, Offline, Unclean}
use Rattle.cluster_types.specs.Failures.{failures_in_force}
use Rattle.cluster_types.specs.Journals.{NodeSign, joined, went_down, was_lost, was_fenced, last_sign}
use Rattle.cluster_types.specs.Outcomes.{effective_on_fail, is_fence}

abbrev pub asks_for_fence : Cluster → Event → Bool
asks_for_fence c (Ended k a o moment) = is_fence (effective_on_fail c a)
asks_for_fence c _ = false

-- a failure in force on the node wants it fenced (Pacemaker Explained, "on-fail"). One that a failure timeout has forgotten is still in force (rule of
-- this project)
abbrev pub has_failure_to_fence : Cluster → ℕ → List Event → Bool
has_failure_to_fence c n es =
    list_any (λ r. list_any (asks_for_fence c) (failures_in_force c r n es)) (range_with_len 0 (length c.leaves))

-- the state by the last that is shown of the node: a node that joined is online, but unclean where a failure wants it fenced; a lost node is
-- unclean, but offline without fencing; any other node is offline (Pacemaker Explained, "Fencing")
abbrev pub state_by : Cluster → ℕ → List Event → Option NodeSign → NodeState
state_by c n es (Some joined) = if has_failure_to_fence c n es then Unclean else Online
state_by c n es (Some went_down) = Offline
state_by c n es (Some was_lost) = if c.properties.fencing then Unclean else Offline
state_by c n es (Some was_fenced) = Offline
state_by c n es None = Offline

abbrev pub node_state : Cluster → ℕ → List Event → NodeState
node_state c n es = state_by c n es (last_sign n es)

abbrev pub is_online_state : NodeState → Bool
is_online_state Online = true
is_online_state _ = false

-- the node of this number is online by the states of the nodes
abbrev pub is_online_in : List NodeState → ℕ → Bool
is_online_in nodes n = option_map_or is_online_state (slice_get nodes n) false

abbrev pub is_unclean_state : NodeState → Bool
is_unclean_state Unclean = true
is_unclean_state _ = false

abbrev pub is_online : Cluster → ℕ → List Event → Bool
is_online c n es = is_online_state (node_state c n es)

abbrev pub is_unclean : Cluster → ℕ → List Event → Bool
is_unclean c n es = is_unclean_state (node_state c n es)

abbrev pub is_standby : Cluster → ℕ → Bool
is_standby c n = option_map_or (λ (node : Node). node.standby) (slice_get c.nodes n) false

-- the node may run resources: it is online and not in standby (Pacemaker Explained, "standby")
abbrev pub is_usable : Cluster → ℕ → List Event → Bool
is_usable c n es = is_online c n es && not (is_standby c n)
