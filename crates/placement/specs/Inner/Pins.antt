-- Which leaves are left as they are, by the states of the cluster (follows from the definition of pins).
use Rattle.std.specs.Prelude.{ℕ, ◌&&◌, Bool, false, not, if◌then◌else◌, Option, Some, None, List, length, map}
use Rattle.std.specs.List.{list_any, range_with_len}
use Rattle.std.specs.Option.{option_map_or}
use Rattle.cluster_types.specs.declared.cluster.Cluster.{Cluster}
use Rattle.cluster_types.specs.declared.placement.Pin.{Pin}
use Rattle.cluster_types.specs.declared.placement.Pin.TheVariants.{Unmanaged, Blocked}
use Rattle.cluster_types.specs.declared.placement.Target.{Target}
use Rattle.cluster_types.specs.declared.placement.Target.TheVariants as target
use Rattle.cluster_types.specs.declared.states.Cell.{Cell}
use Rattle.cluster_types.specs.declared.states.States.{States}
use Rattle.cluster_types.specs.Fields.{is_managed}
use Rattle.cluster_types.specs.NodeStates.{is_online_in}
use Rattle.cluster_types.specs.Pins.{is_blocked_state, is_pinned_in, is_unprobed_state}
use Rattle.placement.specs.OwnRows.{cell_by}

-- the leaf may be left in the cell: it may run there, and the cell was probed
abbrev pub may_stay : Cell → Bool
may_stay cell = cell.may && not (is_unprobed_state cell.state)

module _ (c : Cluster) (states : States) where
  abbrev pub is_blocked_by : ℕ → ℕ → Bool
  is_blocked_by r n = option_map_or (λ (cell : Cell). is_blocked_state cell.state) (cell_by c states r n) false

  -- why the leaf is left as it is, if it is
  abbrev pub pin_by : ℕ → Option Pin
  pin_by r =
      if not (is_managed c r) then Some Unmanaged else (if list_any (is_blocked_by r) (range_with_len 0 (length c.nodes)) then Some Blocked else None)

  -- the same of all leaves
  abbrev pub pins_by : List (Option Pin)
  pins_by = map pin_by (range_with_len 0 (length c.leaves))

  -- the target of a pinned leaf in a cell where it stays
  abbrev pub stay_by : ℕ → ℕ → Target
  stay_by r n =
      option_map_or (λ (cell : Cell). if is_online_in states.nodes n && may_stay cell then (if cell.may_promoted then target.Promoted else target.Started) else target.Nowhere)
      (cell_by c states r n) target.Nowhere

module _ (c : Cluster) (pins : List (Option Pin)) (states : States) where
  -- the target of a cell that stands before any decision
  abbrev pub pinned_in : ℕ → ℕ → Target
  pinned_in r n = if is_pinned_in pins r then stay_by c states r n else target.Nowhere
