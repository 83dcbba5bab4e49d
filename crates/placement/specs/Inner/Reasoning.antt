-- Why a leaf has no target, by what is known of the cluster and by the tables (follows from the definition of the reasons).
use Rattle.std.specs.Prelude.{ℕ, ◌==◌, ◌&&◌, Bool, false, not, if◌then◌else◌, Option, Some, None, is_some, List}
use Rattle.std.specs.List.{find, list_any, range_with_len}
use Rattle.std.specs.Option.{option_map}
use Rattle.cluster_types.specs.declared.cluster.Cluster.{Cluster}
use Rattle.cluster_types.specs.declared.placement.Decision.TheVariants.{Place}
use Rattle.cluster_types.specs.declared.placement.NoReason.{NoReason}
use Rattle.cluster_types.specs.declared.placement.NoReason.TheVariants as none
use Rattle.cluster_types.specs.declared.placement.Pin.{Pin}
use Rattle.cluster_types.specs.declared.rules.Colocation.{Colocation}
use Rattle.cluster_types.specs.declared.rules.Order.{Order}
use Rattle.cluster_types.specs.declared.states.States.{States}
use Rattle.cluster_types.specs.Choice.{is_stopped_role}
use Rattle.cluster_types.specs.Decisions.{decision_of, is_same_decision}
use Rattle.cluster_types.specs.Fields.{copies, target_role_of}
use Rattle.cluster_types.specs.Pins.{is_pinned_in}
use Rattle.cluster_types.specs.Tables.{Targets, is_somewhere}
use Rattle.placement.specs.declared.held_targets.dependencies.Dependency.{Dependency}
use Rattle.placement.specs.Inner.Dependencies.{of_colocation, of_order}
use Rattle.placement.specs.Inner.Reads.{is_fail_stopped_in}
use Rattle.placement.specs.Inner.Taking.{has_its_primary}

-- the first reason that holds, of those that are no rule's: whether a failure stops the leaf, whether the cluster may start, whether it was chosen nowhere
abbrev pub plain_by : Cluster → ℕ → Bool → Bool → Bool → Option NoReason
plain_by c r stopped may_start nowhere =
    if copies c r == 0 then Some none.NoCopies
    else (if is_stopped_role (target_role_of c r) then Some none.Stopped
    else (if stopped then Some none.OnFail
    else (if c.properties.stop_all then Some none.StopAll
    else (if not may_start then Some none.NoQuorum
    else (if nowhere then Some none.NoNode else None)))))

module _ (nodes : ℕ) (targets : Targets) where
  abbrev pub has_target : ℕ → Bool
  has_target r = list_any (λ n. is_somewhere (targets r n)) (range_with_len 0 nodes)

  -- the earliest node on which the leaf has a target
  abbrev pub first_target_node : ℕ → Option ℕ
  first_target_node r = find (λ n. is_somewhere (targets r n)) (range_with_len 0 nodes)

  -- the dependency holds the leaf back on the node, by the targets in the end
  abbrev pub holds_back : ℕ → ℕ → Option Dependency → Bool
  holds_back r n None = false
  holds_back r n (Some rule) = is_same_decision (Place r) (decision_of rule.dependent rule.dependent_role) && not (has_its_primary nodes targets rule n)

  abbrev pub first_colocation : Cluster → ℕ → ℕ → Option Colocation
  first_colocation c r n = find (λ col. holds_back r n (of_colocation col)) c.colocations

  abbrev pub first_order : Cluster → ℕ → ℕ → Option Order
  first_order c r n = find (λ o. holds_back r n (of_order o)) c.orders

-- the id of a colocation, or of an order where there is no colocation
abbrev pub id_of : Option Colocation → Option Order → Option (List ℕ)
id_of (Some col) o = Some col.id
id_of None (Some o) = Some o.id
id_of None None = None

-- the id of the rule that holds the leaf back on the node
abbrev pub holder_id : Cluster → ℕ → Targets → ℕ → ℕ → Option (List ℕ)
holder_id c nodes targets r n = id_of (first_colocation nodes targets c r n) (first_order nodes targets c r n)

-- the reason of a rule, on the earliest node that was chosen
abbrev pub held_by : Cluster → ℕ → Targets → ℕ → Option ℕ → Option NoReason
held_by c nodes targets r None = None
held_by c nodes targets r (Some n) = option_map none.Held (holder_id c nodes targets r n)

-- a plain reason goes before that of a rule
abbrev pub or_held : Option NoReason → Option NoReason → Option NoReason
or_held None held = held
or_held (Some reason) held = Some reason

-- the leaf isn't left as it is, by the list that says why each is, and has no target
abbrev pub needs_reason : List (Option Pin) → ℕ → Targets → ℕ → Bool
needs_reason pins nodes targets r = not (is_pinned_in pins r) && not (has_target nodes targets r)

module _ (c : Cluster) (states : States) (may_start : Bool) (nodes : ℕ) (chosen targets : Targets) where
  -- the reason of a leaf that needs one
  abbrev pub reason_by : ℕ → Option NoReason
  reason_by r =
      or_held (plain_by c r (is_fail_stopped_in states r) may_start (not (is_some (first_target_node nodes chosen r))))
      (held_by c nodes targets r (first_target_node nodes chosen r))

  -- the reason of each leaf
  abbrev pub reason_in : List (Option Pin) → ℕ → Option NoReason
  reason_in pins r = if needs_reason pins nodes targets r then reason_by r else None
