-- Examples of what is decided first, of scores, caps and reasons, computed from the definitions. Each notices one rule that no other example does.
use Rattle.std.proofs.Common.{◌≡◌, zero, suc, pos, neg_ℤ, true, false, List, [], ◌∷◌, ◌++◌, refl, Some}
use Rattle.std.specs.Prelude.{codes}
use Rattle.cluster_types.specs.declared.cluster.Cluster.{Cluster}
use Rattle.cluster_types.specs.declared.cluster.Policy.TheVariants as policy
use Rattle.cluster_types.specs.declared.journal.Event.{Event}
use Rattle.cluster_types.specs.declared.journal.Event.TheVariants.{Quorum}
use Rattle.cluster_types.specs.declared.journal.Promotion.{Promotion}
use Rattle.cluster_types.specs.declared.leaf.Leaf.{Leaf}
use Rattle.cluster_types.specs.declared.leaf.OnFail.TheVariants as on_fail
use Rattle.cluster_types.specs.declared.leaf.Op.TheVariants.{Start, Promote as PromoteOp}
use Rattle.cluster_types.specs.declared.leaf.Role.TheVariants as role
use Rattle.cluster_types.specs.declared.leaf.TargetRole.TheVariants as target_role
use Rattle.cluster_types.specs.declared.placement.Decision.TheVariants.{Place, Promote}
use Rattle.cluster_types.specs.declared.placement.NoReason.TheVariants as none
use Rattle.cluster_types.specs.declared.placement.Target.TheVariants as target
use Rattle.cluster_types.specs.declared.rules.OrderKind.TheVariants as kind
use Rattle.cluster_types.specs.Choice.{cap_of, preference}
use Rattle.cluster_types.specs.Decisions.{is_made_before, key_of}
use Rattle.cluster_types.specs.Pins.{pinned_targets}
use Rattle.cluster_types.specs.Reasons.{plain_reason}
use Rattle.cluster_types.specs.Rights.{may_keep_by}
use Rattle.cluster_types.specs.Tables.{Targets}
use Rattle.cluster_types.specs.Terms.{base}
use Rattle.cluster_types.proofs.SmallClusters.{plain_leaf, plain_options, two_nodes, location, colocation, start_order, did, probed, online, step, no_targets}
use Rattle.cluster_types.proofs.SmallRuns.{predecessors}

abbrev vip : Leaf
vip = plain_leaf (codes "vip")

abbrev idle : List Event
idle = online [] 1000

-- A pinned leaf stays where it runs, and not where nothing is known of it.

abbrev unmanaged : Cluster
unmanaged = two_nodes (record vip { managed = false } ∷ [])

unprobed_has_no_target : pinned_targets unmanaged idle 0 0 ≡ target.Nowhere
unprobed_has_no_target = refl

running_stays : pinned_targets unmanaged (online (probed 0 1 0 900 ∷ []) 1000) 0 1 ≡ target.Started
running_stays = refl

-- The greater priority is decided first, and of equals the earlier leaf.

abbrev pair : Cluster
pair = two_nodes (plain_leaf (codes "a") ∷ plain_leaf (codes "b") ∷ [])

abbrev later_matters_more : Cluster
later_matters_more = two_nodes (plain_leaf (codes "a") ∷ record (plain_leaf (codes "b")) { priority = pos 10 } ∷ [])

greater_priority_first : is_made_before later_matters_more idle [] (Place 1) (Place 0) ≡ true
greater_priority_first = refl

lesser_priority_not_first : is_made_before later_matters_more idle [] (Place 0) (Place 1) ≡ false
lesser_priority_not_first = refl

earlier_leaf_first : is_made_before pair idle [] (Place 0) (Place 1) ≡ true
earlier_leaf_first = refl

later_leaf_not_first : is_made_before pair idle [] (Place 1) (Place 0) ≡ false
later_leaf_not_first = refl

-- What must be with a leaf lends it its scores.

abbrev drawn : Cluster
drawn = record pair {
  locations = location (codes "l") 0 1 (pos 50) ∷ [];
  colocations = colocation (codes "c") 0 1 (pos 1000000) ∷ [];
}

lent_to_the_primary : base drawn idle [] (Place 1) 1 ≡ pos 50
lent_to_the_primary = refl

not_lent_to_the_dependent : base drawn idle [] (Place 0) 0 ≡ pos 0
not_lent_to_the_dependent = refl

-- Of a promotion the totals count as active where the leaf is promoted alone.

abbrev database : Leaf
database = record (plain_leaf (codes "db")) { copies = 2; cloned = true; promotable = true }

abbrev replicated : Cluster
replicated = two_nodes (database ∷ [])

abbrev promoted_on_n1 : List Event
promoted_on_n1 = online (did Start 0 0 0 900 ∷ did PromoteOp 0 0 0 901 ∷ did Start 0 1 0 900 ∷ []) 1000

abbrev wanted : List Promotion
wanted = record { leaf = 0; node = 0; score = pos 10 } ∷ record { leaf = 0; node = 1; score = pos 20 } ∷ []

active_where_promoted : (key_of replicated promoted_on_n1 wanted (Promote 0)).active ≡ pos 10
active_where_promoted = refl

usable_everywhere : (key_of replicated promoted_on_n1 wanted (Promote 0)).usable ≡ pos 20
usable_everywhere = refl

-- Of whom no agent said a promotion score, it is -1.
nothing_said_of_it : base replicated idle [] (Promote 0) 0 ≡ neg_ℤ (pos 1)
nothing_said_of_it = refl

-- Where no node is open by itself, the later members of a group need no location of their own.

abbrev grouped : Cluster
grouped = record (two_nodes (plain_leaf (codes "a") ∷ record (plain_leaf (codes "b")) { follower = true } ∷ [])) {
  properties = record plain_options { symmetric = false };
}

first_member_is_kept_out : base grouped idle [] (Place 0) 0 ≡ neg_ℤ (pos 1000000)
first_member_is_kept_out = refl

follower_is_not : base grouped idle [] (Place 1) 0 ≡ pos 0
follower_is_not = refl

-- No more are promoted than there are copies, and than may be promoted; none where the leaf is to be unpromoted.

one_promoted_of_two : cap_of replicated idle (Promote 0) ≡ 1
one_promoted_of_two = refl

only_copies_are_promoted : cap_of (two_nodes (record database { copies = 1; promoted_copies = 2 } ∷ [])) idle (Promote 0) ≡ 1
only_copies_are_promoted = refl

none_unpromoted : cap_of (two_nodes (record database { target_role = target_role.Unpromoted } ∷ [])) idle (Promote 0) ≡ 0
none_unpromoted = refl

unpromoted_are_placed : cap_of (two_nodes (record database { target_role = target_role.Unpromoted } ∷ [])) idle (Place 0) ≡ 2
unpromoted_are_placed = refl

none_stopped : cap_of (two_nodes (record database { target_role = target_role.Stopped } ∷ [])) idle (Promote 0) ≡ 0
none_stopped = refl

-- A finite colocation counts where its primary holds the role that it names, for the decision that gives its dependent the other.

abbrev with_the_promoted : Cluster
with_the_promoted = record (two_nodes (database ∷ vip ∷ [])) {
  colocations = record (colocation (codes "c") 1 0 (pos 50)) { primary_role = role.Promoted } ∷ [];
}

abbrev promoted_on_n2 : Targets
promoted_on_n2 zero zero = target.Started
promoted_on_n2 zero (suc zero) = target.Promoted
promoted_on_n2 _ _ = target.Nowhere

not_with_the_started : preference with_the_promoted promoted_on_n2 (Place 1) 0 ≡ pos 0
not_with_the_started = refl

with_it_where_promoted : preference with_the_promoted promoted_on_n2 (Place 1) 1 ≡ pos 50
with_it_where_promoted = refl

abbrev promoted_with : Cluster
promoted_with = record (two_nodes (database ∷ vip ∷ [])) {
  colocations = record (colocation (codes "c") 0 1 (pos 50)) { dependent_role = role.Promoted } ∷ [];
}

abbrev vip_on_n1 : Targets
vip_on_n1 (suc zero) zero = target.Started
vip_on_n1 _ _ = target.Nowhere

promotion_is_drawn : preference promoted_with vip_on_n1 (Promote 0) 0 ≡ pos 50
promotion_is_drawn = refl

place_is_not : preference promoted_with vip_on_n1 (Place 0) 0 ≡ pos 0
place_is_not = refl

-- The first reason that holds is told.

abbrev fails_for_good : Leaf
fails_for_good = record vip { start_fail = on_fail.Stop }

abbrev failed : List Event
failed = online (did Start 0 0 1 900 ∷ []) 1000

abbrev stopped_too : Cluster
stopped_too = two_nodes (record fails_for_good { target_role = target_role.Stopped } ∷ [])

stopped_before_on_fail : plain_reason stopped_too failed no_targets 0 ≡ Some none.Stopped
stopped_before_on_fail = refl

no_copies_before_stopped : plain_reason (two_nodes (record vip { copies = 0; target_role = target_role.Stopped } ∷ [])) idle no_targets 0 ≡ Some none.NoCopies
no_copies_before_stopped = refl

abbrev all_stopped : Cluster
all_stopped = record (two_nodes (fails_for_good ∷ [])) { properties = record plain_options { stop_all = true } }

on_fail_before_stop_all : plain_reason all_stopped failed no_targets 0 ≡ Some none.OnFail
on_fail_before_stop_all = refl

stop_all_before_no_quorum : plain_reason all_stopped (idle ++ Quorum false ∷ []) no_targets 0 ≡ Some none.StopAll
stop_all_before_no_quorum = refl

no_quorum_before_no_node : plain_reason (two_nodes (vip ∷ [])) (idle ++ Quorum false ∷ []) no_targets 0 ≡ Some none.NoQuorum
no_quorum_before_no_node = refl

-- Without quorum a frozen cluster keeps what runs, unless all is to be stopped.

abbrev frozen : Cluster
frozen = record pair { properties = record plain_options { policy = policy.Freeze } }

frozen_keeps : may_keep_by frozen false ≡ true
frozen_keeps = refl

stop_all_thaws : may_keep_by (record pair { properties = record plain_options { policy = policy.Freeze; stop_all = true } }) false ≡ false
stop_all_thaws = refl

-- A local Serialize order keeps apart what is done on one node alone.

abbrev serial_on_each_node : Cluster
serial_on_each_node = record pair { orders = record (start_order (codes "o") 0 1 true) { kind = kind.Serialize; symmetrical = false } ∷ [] }

serial_here : predecessors serial_on_each_node (step Start 0 0 ∷ step Start 1 0 ∷ []) (step Start 1 0) ≡ step Start 0 0 ∷ []
serial_here = refl

not_serial_elsewhere : predecessors serial_on_each_node (step Start 0 0 ∷ step Start 1 1 ∷ []) (step Start 1 1) ≡ []
not_serial_elsewhere = refl
