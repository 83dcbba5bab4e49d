-- What is decided, and by what keys, by what is read of the cluster (follows from the definition of decisions).
use Rattle.std.specs.Prelude.{ℕ, Bool, false, if◌then◌else◌, ℤ, Option, List, [], ◌∷◌, length, map, filter}
use Rattle.std.specs.List.{flat_map, range_with_len}
use Rattle.std.specs.Option.{option_map_or}
use Rattle.cluster_types.specs.declared.cluster.Cluster.{Cluster}
use Rattle.cluster_types.specs.declared.placement.Decision.{Decision}
use Rattle.cluster_types.specs.declared.placement.Decision.TheVariants.{Place, Promote}
use Rattle.cluster_types.specs.declared.placement.Pin.{Pin}
use Rattle.cluster_types.specs.declared.states.Cell.{Cell}
use Rattle.cluster_types.specs.declared.states.States.{States}
use Rattle.cluster_types.specs.Decisions.{Key, greatest_of, is_active_for, leaf_of}
use Rattle.cluster_types.specs.Fields.{is_promotable, priority}
use Rattle.cluster_types.specs.Pins.{is_pinned_in}
use Rattle.placement.specs.declared.totals.table.ScoreTable.{ScoreTable}
use Rattle.placement.specs.OwnRows.{cell_by}
use Rattle.placement.specs.Scores.{score_in}
use Rattle.placement.specs.UsableNodes.{is_usable_by}

module _ (c : Cluster) (pins : List (Option Pin)) where
  -- what is decided of a leaf
  abbrev pub decisions_in_leaf : ℕ → List Decision
  decisions_in_leaf r = if is_pinned_in pins r then [] else Place r ∷ (if is_promotable c r then Promote r ∷ [] else [])

  -- and of all
  abbrev pub decisions_in : List Decision
  decisions_in = flat_map decisions_in_leaf (range_with_len 0 (length c.leaves))

-- what runs in the cell counts for the decision
abbrev pub is_active_by_cell : Cluster → States → Decision → ℕ → Bool
is_active_by_cell c states d n = option_map_or (λ (cell : Cell). is_active_for d cell.state) (cell_by c states (leaf_of d) n) false

module _ (c : Cluster) (states : States) (scores : ScoreTable) where
  abbrev pub bases_where_by : (ℕ → Bool) → Decision → List ℤ
  bases_where_by passes d = map (score_in scores d) (filter passes (range_with_len 0 (length c.nodes)))

  abbrev pub compared_key : Decision → Key
  compared_key d = record {
    priority = priority c (leaf_of d);
    active = greatest_of (bases_where_by (is_active_by_cell c states d) d);
    usable = greatest_of (bases_where_by (is_usable_by c states) d);
  }
