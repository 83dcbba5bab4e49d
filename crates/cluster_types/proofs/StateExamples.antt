-- Examples of what a journal tells, computed from the definitions.
use Rattle.std.proofs.Common.{◌≡◌, pos, Bool, true, false, List, [], ◌∷◌, ◌++◌, refl}
use Rattle.std.specs.Prelude.{codes}
use Rattle.cluster_types.specs.declared.cluster.Cluster.{Cluster}
use Rattle.cluster_types.specs.declared.journal.Action.TheVariants.{Fence}
use Rattle.cluster_types.specs.declared.journal.Event.{Event}
use Rattle.cluster_types.specs.declared.journal.Event.TheVariants.{Lost, Ended}
use Rattle.cluster_types.specs.declared.journal.Outcome.TheVariants.{Code, TimedOut}
use Rattle.cluster_types.specs.declared.leaf.Leaf.{Leaf}
use Rattle.cluster_types.specs.declared.leaf.Op.TheVariants.{Start, Stop}
use Rattle.cluster_types.specs.declared.states.CellState.{CellState}
use Rattle.cluster_types.specs.declared.states.CellState.TheVariants as cell
use Rattle.cluster_types.specs.declared.states.NodeState.TheVariants as state
use Rattle.cluster_types.specs.CellStates.{cell_state}
use Rattle.cluster_types.specs.Failures.{is_banned}
use Rattle.cluster_types.specs.Journals.{first_events, unsaid, online as is_online}
use Rattle.cluster_types.specs.May.{may_be_running}
use Rattle.cluster_types.specs.NodeStates.{node_state}
use Rattle.cluster_types.specs.Rights.{is_to_be_fenced}
use Rattle.cluster_types.proofs.SmallClusters.{plain_leaf, two_nodes, unfenced, did, monitored, probed, online, step}

abbrev vip : Leaf
vip = plain_leaf (codes "vip")

abbrev one : Cluster
one = two_nodes (vip ∷ [])

abbrev state_after : List Event → CellState
state_after history = cell_state one 0 0 (online history 1000)

abbrev may_after : List Event → Bool
may_after history = may_be_running one 0 0 (online history 1000)

-- What the history of a cell says of it.

nothing_known : state_after [] ≡ cell.Unprobed
nothing_known = refl

nothing_known_may : may_after [] ≡ true
nothing_known_may = refl

found_stopped : state_after (probed 0 0 7 900 ∷ []) ≡ cell.Off
found_stopped = refl

found_stopped_may : may_after (probed 0 0 7 900 ∷ []) ≡ false
found_stopped_may = refl

not_installed : state_after (probed 0 0 5 900 ∷ []) ≡ cell.Off
not_installed = refl

not_installed_banned : is_banned one 0 0 (online (probed 0 0 5 900 ∷ []) 1000) ≡ true
not_installed_banned = refl

found_running : state_after (probed 0 0 0 900 ∷ []) ≡ cell.On
found_running = refl

start_timed_out : state_after (Ended 0 (step Start 0 0) TimedOut 900 ∷ []) ≡ cell.Failed
start_timed_out = refl

start_timed_out_banned : is_banned one 0 0 (online (Ended 0 (step Start 0 0) TimedOut 900 ∷ []) 1000) ≡ true
start_timed_out_banned = refl

start_timed_out_may : may_after (Ended 0 (step Start 0 0) TimedOut 900 ∷ []) ≡ true
start_timed_out_may = refl

failed_stop_blocks : cell_state (unfenced one) 0 0 (online (did Start 0 0 0 900 ∷ did Stop 0 0 1 901 ∷ []) 1000) ≡ cell.Blocked
failed_stop_blocks = refl

degraded_runs : state_after (did Start 0 0 0 900 ∷ monitored 0 0 10000 190 901 ∷ []) ≡ cell.On
degraded_runs = refl

monitor_found_stopped : state_after (did Start 0 0 0 900 ∷ monitored 0 0 10000 7 901 ∷ []) ≡ cell.Off
monitor_found_stopped = refl

monitor_found_stopped_may : may_after (did Start 0 0 0 900 ∷ monitored 0 0 10000 7 901 ∷ []) ≡ false
monitor_found_stopped_may = refl

-- A failure timeout of 60 seconds, to the second.

abbrev brief : Cluster
brief = two_nodes (record vip { threshold = pos 1; timeout_ms = 60000 } ∷ [])

abbrev failed_monitor : List Event
failed_monitor = did Start 0 0 0 900 ∷ monitored 0 0 10000 7 940 ∷ []

banned_until_the_timeout : is_banned brief 0 0 (online failed_monitor 1000) ≡ true
banned_until_the_timeout = refl

not_banned_after_the_timeout : is_banned brief 0 0 (online failed_monitor 1001) ≡ false
not_banned_after_the_timeout = refl

-- A failed stop has its node fenced, and so has a node that was lost, but without fencing neither.

failed_stop_is_unclean : node_state one 0 (online (did Start 0 0 0 900 ∷ did Stop 0 0 1 901 ∷ []) 1000) ≡ state.Unclean
failed_stop_is_unclean = refl

failed_stop_is_fenced : is_to_be_fenced one 0 (online (did Start 0 0 0 900 ∷ did Stop 0 0 1 901 ∷ []) 1000) ≡ true
failed_stop_is_fenced = refl

lost_is_unclean : node_state one 1 (online [] 1000 ++ Lost 1 ∷ []) ≡ state.Unclean
lost_is_unclean = refl

lost_is_offline_unfenced : node_state (unfenced one) 1 (online [] 1000 ++ Lost 1 ∷ []) ≡ state.Offline
lost_is_offline_unfenced = refl

-- What may run on a lost node stays so until the node is fenced, or is closed at once without fencing.

lost_may_run : may_be_running one 0 1 (online (did Start 0 1 0 900 ∷ []) 1000 ++ Lost 1 ∷ []) ≡ true
lost_may_run = refl

fenced_may_not : may_be_running one 0 1 (online (did Start 0 1 0 900 ∷ []) 1000 ++ Lost 1 ∷ Ended 1 (Fence 1) (Code 0) 1000 ∷ []) ≡ false
fenced_may_not = refl

lost_unfenced_may_not : may_be_running (unfenced one) 0 1 (online (did Start 0 1 0 900 ∷ []) 1000 ++ Lost 1 ∷ []) ≡ false
lost_unfenced_may_not = refl

-- Where the status says nothing of a node, it is unclean from the beginning.
unsaid_is_unclean : node_state one 1 (first_events one [] (is_online ∷ unsaid ∷ []) true 1000) ≡ state.Unclean
unsaid_is_unclean = refl
