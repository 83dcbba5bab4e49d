-- What the cluster may do (Pacemaker Explained, "no-quorum-policy", "stonith-enabled", "stop-all-resources").
use Rattle.std.specs.Prelude.{ℕ, Bool, true, false, not, ◌&&◌, ◌||◌, List}
use Rattle.cluster_types.specs.declared.cluster.Cluster.{Cluster}
use Rattle.cluster_types.specs.declared.cluster.Policy.{Policy}
use Rattle.cluster_types.specs.declared.cluster.Policy.TheVariants as policy
use Rattle.cluster_types.specs.declared.journal.Event.{Event}
use Rattle.cluster_types.specs.declared.states.Rights.{Rights}
use Rattle.cluster_types.specs.Journals.{has_quorum}
use Rattle.cluster_types.specs.NodeStates.{is_unclean}

abbrev pub is_ignore_policy : Policy → Bool
is_ignore_policy policy.Ignore = true
is_ignore_policy _ = false

abbrev pub is_freeze_policy : Policy → Bool
is_freeze_policy policy.Freeze = true
is_freeze_policy _ = false

-- what the cluster may do, with quorum or without
module _ (c : Cluster) (quorum : Bool) where
  -- the cluster may act as one: it has quorum, or goes on without
  abbrev pub may_act_by : Bool
  may_act_by = quorum || is_ignore_policy c.properties.policy

  -- nodes may be fenced, every unclean one alike (rule of this project)
  abbrev pub may_fence_by : Bool
  may_fence_by = c.properties.fencing && may_act_by

  abbrev pub may_start_by : Bool
  may_start_by = may_act_by && not c.properties.stop_all

  -- what runs may stay: the cluster may start, or it is frozen
  abbrev pub may_keep_by : Bool
  may_keep_by = may_start_by || is_freeze_policy c.properties.policy && not c.properties.stop_all

  abbrev pub rights_by : Rights
  rights_by = record { may_fence = may_fence_by; may_start = may_start_by; may_keep = may_keep_by }

-- the same after a journal
abbrev pub may_fence : Cluster → List Event → Bool
may_fence c es = may_fence_by c (has_quorum es)

abbrev pub may_start : Cluster → List Event → Bool
may_start c es = may_start_by c (has_quorum es)

abbrev pub may_keep : Cluster → List Event → Bool
may_keep c es = may_keep_by c (has_quorum es)

abbrev pub rights_of : Cluster → List Event → Rights
rights_of c es = rights_by c (has_quorum es)

-- the node is to be fenced: it is unclean, and the cluster may fence
abbrev pub is_to_be_fenced : Cluster → ℕ → List Event → Bool
is_to_be_fenced c n es = may_fence c es && is_unclean c n es
