-- The pass over the orders, rank by rank, and what it goes by (follows from the definition of the cells that are cycled).
use Rattle.std.specs.Prelude.{◌≡◌, ◌<◌, ◌+◌, ◌*◌, ℕ, suc, zero, ◌==◌, ◌&&◌, nat_lt, Bool, true, false, if◌then◌else◌, List, [], ◌++◌, length, filter, slice_get, slice_index_or, unwrap_or}
use Rattle.cluster_types.specs.declared.cluster.Cluster.{Cluster}
use Rattle.cluster_types.specs.declared.journal.Event.{Event}
use Rattle.cluster_types.specs.declared.leaf.Op.{Op}
use Rattle.cluster_types.specs.declared.leaf.Op.TheVariants.{Stop}
use Rattle.cluster_types.specs.declared.placement.Target.TheVariants as target
use Rattle.cluster_types.specs.declared.rules.Order.{Order}
use Rattle.cluster_types.specs.declared.states.CellState.TheVariants as cell
use Rattle.cluster_types.specs.CellStates.{cell_state}
use Rattle.cluster_types.specs.May.{may_be_running}
use Rattle.cluster_types.specs.NeededActions.{can_cycle, steps_of}
use Rattle.cluster_types.specs.Numbers.{rank, step_of}
use Rattle.cluster_types.specs.Pins.{is_pinned}
use Rattle.cluster_types.specs.Tables.{Targets}
use Rattle.cluster_types.specs.UnpackedStates.{cell_at}
use Rattle.planner.specs.CycledCells.{MarkedCells, is_cycling}
use Rattle.planner.specs.declared.needed_actions.steps.CellNeed.{CellNeed}

abbrev pub steps_by : CellNeed → Bool → List Op
steps_by need cycled = if need.pinned then [] else steps_of need.state need.target cycled

-- a cell that isn't there
abbrev pub no_need : CellNeed
no_need = record { state = cell.Away; may = false; running = 0; target = target.Nowhere; pinned = true; can_cycle = false }

-- what a list says of the cell, leaf by leaf and node by node
abbrev pub need_in : ℕ → List CellNeed → ℕ → ℕ → CellNeed
need_in nodes needs r n = unwrap_or (slice_get needs (r * nodes + n)) no_need

-- the cells that a list marks
abbrev pub marks_in : ℕ → List Bool → MarkedCells
marks_in nodes cells r n = nat_lt n nodes && slice_index_or cells (r * nodes + n) false

-- what the steps of each cell hang on, leaf by leaf and node by node
module _ (c : Cluster) (es : List Event) (targets : Targets) where
  abbrev pub need_at : ℕ → ℕ → CellNeed
  need_at r n = record {
    state = cell_state c r n es;
    may = may_be_running c r n es;
    running = (cell_at c es r n).running;
    target = targets r n;
    pinned = is_pinned c es r;
    can_cycle = can_cycle c es targets r n;
  }

  -- the list says so of each cell
  abbrev pub AreNeeds : List CellNeed → Type 0
  AreNeeds needs = (r n : ℕ) → r < length c.leaves → n < length c.nodes → need_in (length c.nodes) needs r n ≡ need_at r n

-- the order may have cells cycled, and its first stops at this rank
abbrev pub is_at_level : Cluster → ℕ → Order → Bool
is_at_level c k o = is_cycling o && rank c (step_of Stop o.first) == k

abbrev pub at_level : Cluster → ℕ → List Order
at_level c k = filter (is_at_level c k) c.orders

-- those of all ranks below this one, the highest rank first
abbrev pub below_level : Cluster → ℕ → List Order
below_level c zero = []
below_level c (suc k) = at_level c k ++ below_level c k
