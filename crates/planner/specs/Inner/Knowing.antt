-- What a cell needs, by the states, the pins and the table (follows from the definitions of what is known).
use Rattle.std.specs.Prelude.{ℕ, ◌+◌, ◌*◌, ◌&&◌, Bool, not, List, Option, map, slice_get}
use Rattle.std.specs.List.{flat_map, range_with_len}
use Rattle.std.specs.Option.{option_map_or}
use Rattle.cluster_types.specs.declared.placement.Pin.{Pin}
use Rattle.cluster_types.specs.declared.placement.Table.{Table}
use Rattle.cluster_types.specs.declared.placement.Target.{Target}
use Rattle.cluster_types.specs.declared.states.Cell.{Cell}
use Rattle.cluster_types.specs.NeededActions.{runs}
use Rattle.cluster_types.specs.Pins.{is_pinned_in}
use Rattle.cluster_types.specs.Tables.{is_somewhere, targets_of}
use Rattle.planner.specs.Inner.Levels.{no_need}
use Rattle.planner.specs.declared.needed_actions.steps.CellNeed.{CellNeed}

abbrev pub need_from : Cell → Target → Bool → Bool → CellNeed
need_from known target pinned starts = record {
  state = known.state;
  may = known.may;
  running = known.running;
  target = target;
  pinned = pinned;
  can_cycle = starts && not pinned && runs known.state && is_somewhere target;
}

module _ (cells : List Cell) (pins : List (Option Pin)) (table : Table) (starts : Bool) (nodes : ℕ) where
  abbrev pub need_by : ℕ → ℕ → CellNeed
  need_by r n =
      option_map_or (λ known. need_from known (targets_of table r n) (is_pinned_in pins r) starts)
      (slice_get cells (r * nodes + n)) no_need

  abbrev pub needs_by : ℕ → List CellNeed
  needs_by leaves = flat_map (λ r. map (need_by r) (range_with_len 0 nodes)) (range_with_len 0 leaves)
