-- Examples of rules of recovery and promotion that no other example notices, computed from the definitions.
use Rattle.std.proofs.Common.{arith, ◌≡◌, zero, true, false, List, [], ◌∷◌, Some, refl}
use Rattle.std.specs.Prelude.{codes}
use Rattle.cluster_types.specs.declared.cluster.Cluster.{Cluster}
use Rattle.cluster_types.specs.declared.cluster.Policy.TheVariants as policy
use Rattle.cluster_types.specs.declared.journal.Action.TheVariants.{Fence, Probe, Operation}
use Rattle.cluster_types.specs.declared.journal.Event.{Event}
use Rattle.cluster_types.specs.declared.journal.Event.TheVariants.{Ended, Quorum, Up}
use Rattle.cluster_types.specs.declared.journal.Outcome.TheVariants.{Code}
use Rattle.cluster_types.specs.declared.leaf.Op.TheVariants.{Start, Stop, Promote, Demote, Monitor}
use Rattle.cluster_types.specs.declared.leaf.Role.TheVariants as role
use Rattle.cluster_types.specs.declared.leaf.TargetRole.TheVariants as target_role
use Rattle.cluster_types.specs.declared.placement.Decision.TheVariants.{Place}
use Rattle.cluster_types.specs.declared.placement.NoReason.TheVariants as none
use Rattle.cluster_types.specs.declared.placement.Target.TheVariants as target
use Rattle.cluster_types.specs.declared.rules.Order.{Order}
use Rattle.cluster_types.specs.declared.rules.OrderKind.TheVariants as kind
use Rattle.cluster_types.specs.declared.states.CellState.TheVariants as cell
use Rattle.cluster_types.specs.Choice.{is_permitted}
use Rattle.cluster_types.specs.Held.{OrderCanHoldBack}
use Rattle.cluster_types.specs.NeededActions.{Cycled, by_copies, can_cycle, is_monitor_for, steps_at, steps_of}
use Rattle.cluster_types.specs.Outcomes.{is_bad}
use Rattle.cluster_types.specs.Reasons.{plain_reason}
use Rattle.cluster_types.specs.Steps.{aborts, is_success}
use Rattle.cluster_types.specs.Tables.{Targets}
use Rattle.cluster_types.proofs.SmallClusters.{plain_leaf, plain_options, two_nodes, start_order, did, probed, online, step, no_targets}
use Rattle.cluster_types.proofs.SmallRuns.{predecessors}

abbrev one : Cluster
one = two_nodes (plain_leaf (codes "a") ∷ [])

-- a resource that runs in more cells than it has copies is stopped everywhere, and started again where it is to be
abbrev twice : List Event
twice = online (did Start 0 0 0 900 ∷ did Start 0 1 0 900 ∷ []) 1000

abbrev on_n1 : Targets
on_n1 zero zero = target.Started
on_n1 _ _ = target.Nowhere

too_often : Cycled one twice on_n1 0 0
too_often = by_copies 0 0 (omega arith) (omega arith) refl refl

restarted : steps_at one twice on_n1 0 0 true ≡ Stop ∷ Start ∷ []
restarted = refl

stopped_there : steps_at one twice on_n1 0 1 false ≡ Stop ∷ []
stopped_there = refl

-- without the right to start nothing is cycled
not_without_quorum : can_cycle one (Up 0 ∷ Up 1 ∷ did Start 0 0 0 900 ∷ did Start 0 1 0 900 ∷ Quorum false ∷ []) on_n1 0 0 ≡ false
not_without_quorum = refl

-- a frozen cluster keeps what runs, but not in more cells than there are copies
abbrev frozen : Cluster
frozen = record one { properties = record plain_options { policy = policy.Freeze } }

kept_where_frozen : is_permitted frozen (Up 0 ∷ Up 1 ∷ did Start 0 0 0 900 ∷ probed 0 1 7 900 ∷ Quorum false ∷ []) (Place 0) 0 ≡ true
kept_where_frozen = refl

too_many_to_keep : is_permitted frozen (Up 0 ∷ Up 1 ∷ did Start 0 0 0 900 ∷ did Start 0 1 0 900 ∷ Quorum false ∷ []) (Place 0) 0 ≡ false
too_many_to_keep = refl

-- cycled cells of promotable leaves
cycled_and_promoted_anew : steps_of cell.Promoted target.Promoted true ≡ Demote ∷ Stop ∷ Start ∷ Promote ∷ []
cycled_and_promoted_anew = refl

cycled_and_started : steps_of cell.Promoted target.Started true ≡ Demote ∷ Stop ∷ Start ∷ []
cycled_and_started = refl

cycled_and_promoted : steps_of cell.On target.Promoted true ≡ Stop ∷ Start ∷ Promote ∷ []
cycled_and_promoted = refl

demoted_before_it_stops : steps_of cell.Promoted target.Nowhere false ≡ Demote ∷ Stop ∷ []
demoted_before_it_stops = refl

failed_is_promoted_anew : steps_of cell.Failed target.Promoted false ≡ Stop ∷ Start ∷ Promote ∷ []
failed_is_promoted_anew = refl

-- a promote comes after the start on its cell, and after each probe of its leaf and each fence
abbrev promotable : Cluster
promotable = two_nodes (record (plain_leaf (codes "m")) { copies = 2; cloned = true; promotable = true } ∷ [])

promoted_after_its_start : predecessors promotable (step Start 0 0 ∷ step Start 0 1 ∷ step Promote 0 0 ∷ []) (step Promote 0 0) ≡ step Start 0 0 ∷ []
promoted_after_its_start = refl

promoted_after_all_probes : predecessors promotable (Probe 0 0 ∷ Probe 0 1 ∷ step Promote 0 0 ∷ []) (step Promote 0 0) ≡ Probe 0 0 ∷ Probe 0 1 ∷ []
promoted_after_all_probes = refl

promoted_after_fences : predecessors promotable (Fence 1 ∷ step Promote 0 0 ∷ []) (step Promote 0 0) ≡ Fence 1 ∷ []
promoted_after_fences = refl

promoted_after_other_stops : predecessors promotable (step Demote 0 1 ∷ step Stop 0 1 ∷ step Promote 0 0 ∷ []) (step Promote 0 0) ≡ step Demote 0 1 ∷ step Stop 0 1 ∷ []
promoted_after_other_stops = refl

watched_after_its_promote : predecessors promotable (step Promote 0 0 ∷ Operation Monitor 0 0 10000 role.Promoted ∷ []) (Operation Monitor 0 0 10000 role.Promoted) ≡ step Promote 0 0 ∷ []
watched_after_its_promote = refl

-- a monitor is of the role of the target
promoted_is_watched_as_promoted : is_monitor_for role.Promoted target.Promoted ≡ true
promoted_is_watched_as_promoted = refl

promoted_is_not_watched_as_started : is_monitor_for role.Started target.Promoted ≡ false
promoted_is_not_watched_as_started = refl

started_is_not_watched_as_promoted : is_monitor_for role.Promoted target.Started ≡ false
started_is_not_watched_as_promoted = refl

-- a promoted one that is found unpromoted is no failure, but no success either
unpromoted_is_good : is_bad (Operation Monitor 0 0 10000 role.Promoted) (Code 0) ≡ false
unpromoted_is_good = refl

unpromoted_aborts : aborts promotable (Ended 1 (Operation Monitor 0 0 10000 role.Promoted) (Code 0) 1000) ≡ true
unpromoted_aborts = refl

degraded_started : is_success promotable (Operation Monitor 0 0 10000 role.Started) (Code 190) ≡ true
degraded_started = refl

-- a stop before a stop is a start before a start the other way round
abbrev stops : Cluster
stops = record (two_nodes (plain_leaf (codes "a") ∷ plain_leaf (codes "b") ∷ [])) { orders = record (start_order (codes "o") 0 1 false) { first_op = Stop; then_op = Stop } ∷ [] }

stops_in_order : predecessors stops (step Stop 0 0 ∷ step Stop 1 0 ∷ []) (step Stop 1 0) ≡ step Stop 0 0 ∷ []
stops_in_order = refl

starts_the_other_way : predecessors stops (step Start 1 1 ∷ step Start 0 1 ∷ []) (step Start 0 1) ≡ step Start 1 1 ∷ []
starts_the_other_way = refl

-- an optional order holds nothing back
abbrev optional : Order
optional = record (start_order (codes "o") 0 1 false) { kind = kind.Optional }

holds_nothing_back : OrderCanHoldBack stops twice on_n1 optional 0 → ⊥
holds_nothing_back h = let e = h.mandatory in cc

-- the first reason counts
abbrev reasons : Cluster
reasons = two_nodes (record (plain_leaf (codes "a")) { copies = 0; target_role = target_role.Stopped } ∷ record (plain_leaf (codes "b")) { target_role = target_role.Stopped } ∷ plain_leaf (codes "c") ∷ [])

no_copies_first : plain_reason reasons (online [] 1000) no_targets 0 ≡ Some none.NoCopies
no_copies_first = refl

then_its_role : plain_reason reasons (online [] 1000) no_targets 1 ≡ Some none.Stopped
then_its_role = refl

then_no_node : plain_reason reasons (online [] 1000) no_targets 2 ≡ Some none.NoNode
then_no_node = refl

stopped_before_quorum : plain_reason (record reasons { properties = record plain_options { stop_all = true } }) (Up 0 ∷ Up 1 ∷ Quorum false ∷ []) no_targets 2 ≡ Some none.StopAll
stopped_before_quorum = refl

quorum_before_nodes : plain_reason reasons (Up 0 ∷ Up 1 ∷ Quorum false ∷ []) no_targets 2 ≡ Some none.NoQuorum
quorum_before_nodes = refl
