-- What a decision reads of the states of the cluster and of what it may do (follows from the definitions of which nodes a decision chooses).
use Rattle.std.specs.Prelude.{ℕ, ◌+◌, ◌*◌, ◌&&◌, nat_le, Bool, false, Option, length, count_by, slice_get}
use Rattle.std.specs.List.{range_with_len}
use Rattle.std.specs.Option.{option_map, option_map_or}
use Rattle.cluster_types.specs.declared.cluster.Cluster.{Cluster}
use Rattle.cluster_types.specs.declared.placement.Decision.{Decision}
use Rattle.cluster_types.specs.declared.states.Cell.{Cell}
use Rattle.cluster_types.specs.declared.states.CellState.{CellState}
use Rattle.cluster_types.specs.declared.states.Rights.{Rights}
use Rattle.cluster_types.specs.declared.states.States.{States}
use Rattle.cluster_types.specs.Choice.{is_kept_by}
use Rattle.cluster_types.specs.Decisions.{leaf_of}
use Rattle.cluster_types.specs.Fields.{copies}
use Rattle.placement.specs.OwnRows.{is_active_by}

module _ (c : Cluster) (states : States) where
  -- the state of a cell, if it is known
  abbrev pub state_in : ℕ → ℕ → Option CellState
  state_in r n = option_map (λ (cell : Cell). cell.state) (slice_get states.cells (r * length c.nodes + n))

  -- in how many cells a leaf is active
  abbrev pub active_count_in : ℕ → ℕ
  active_count_in r = count_by (is_active_by c states r) (range_with_len 0 (length c.nodes))

  -- what runs in the cell may stay, by the state of the cell
  abbrev pub is_kept_in : Decision → ℕ → Bool
  is_kept_in d n = option_map_or (is_kept_by d) (state_in (leaf_of d) n) false

  module _ (rights : Rights) where
    -- what runs of a leaf may stay, as far as the cluster and its copies are asked
    abbrev pub may_stay_in : ℕ → Bool
    may_stay_in r = rights.may_keep && nat_le (active_count_in r) (copies c r)
