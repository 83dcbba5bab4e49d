-- Which leaves are left as they are (Pacemaker Explained, "is-managed" and "on-fail"; what they then count for is a rule of this project).
use Rattle.std.specs.Prelude.{ℕ, nat_lt, ◌&&◌, Bool, true, false, not, if◌then◌else◌, Option, Some, None, is_some, unwrap_or, List, length, slice_get}
use Rattle.std.specs.List.{list_any, range_with_len}
use Rattle.std.specs.Option.{option_map_or}
use Rattle.cluster_types.specs.declared.cluster.Cluster.{Cluster}
use Rattle.cluster_types.specs.declared.journal.Event.{Event}
use Rattle.cluster_types.specs.declared.placement.Pin.{Pin}
use Rattle.cluster_types.specs.declared.placement.Pin.TheVariants.{Unmanaged, Blocked}
use Rattle.cluster_types.specs.declared.placement.Target.TheVariants as target
use Rattle.cluster_types.specs.declared.states.CellState.{CellState}
use Rattle.cluster_types.specs.declared.states.CellState.TheVariants as cell
use Rattle.cluster_types.specs.CellStates.{cell_state}
use Rattle.cluster_types.specs.Fields.{is_managed}
use Rattle.cluster_types.specs.May.{may_be_running, may_be_promoted}
use Rattle.cluster_types.specs.NodeStates.{is_online}
use Rattle.cluster_types.specs.Tables.{Targets}

abbrev pub is_blocked_state : CellState → Bool
is_blocked_state cell.Blocked = true
is_blocked_state _ = false

abbrev pub is_unprobed_state : CellState → Bool
is_unprobed_state cell.Unprobed = true
is_unprobed_state _ = false

-- why a leaf is left as it is, by a list that says it of each leaf. Of one that the list doesn't have nothing is said
abbrev pub leaf_pin : List (Option Pin) → ℕ → Option Pin
leaf_pin pins r = unwrap_or (slice_get pins r) None

-- whether a leaf is left as it is, by such a list; one that the list doesn't have is too
abbrev pub is_pinned_in : List (Option Pin) → ℕ → Bool
is_pinned_in pins r = option_map_or (λ (pin : Option Pin). is_some pin) (slice_get pins r) true

module _ (c : Cluster) (es : List Event) where
  -- why the leaf is left as it is, if it is: it is unmanaged, or one of its cells is blocked
  abbrev pub pin_of : ℕ → Option Pin
  pin_of r =
      if not (is_managed c r) then Some Unmanaged
      else (if list_any (λ n. is_blocked_state (cell_state c r n es)) (range_with_len 0 (length c.nodes)) then Some Blocked else None)

  abbrev pub is_pinned : ℕ → Bool
  is_pinned r = is_some (pin_of r)

  -- a pinned leaf has as targets the cells on online nodes where it may run and something of it is known: they aren't Unprobed
  abbrev pub stays : ℕ → ℕ → Bool
  stays r n = nat_lt r (length c.leaves) && nat_lt n (length c.nodes) && is_pinned r && is_online c n es && may_be_running c r n es && not (is_unprobed_state (cell_state c r n es))

  -- the targets of the pinned leaves, which stand before any decision
  abbrev pub pinned_targets : Targets
  pinned_targets r n = if stays r n then (if may_be_promoted c r n es then target.Promoted else target.Started) else target.Nowhere
