-- The list of all actions, by what each cell needs and by which cells are cycled (follows from the definition of what has to be done).
use Rattle.std.specs.Prelude.{ℕ, ◌==◌, ◌&&◌, ◌||◌, ◌/◌, ◌%◌, Bool, true, false, not, if◌then◌else◌, Option, Some, None, List, [], ◌∷◌, ◌++◌, length, map, filter, find, slice_get}
use Rattle.std.specs.List.{flat_map, list_all, list_any, range_with_len}
use Rattle.std.specs.Option.{option_map_or}
use Rattle.cluster_types.specs.declared.cluster.Cluster.{Cluster}
use Rattle.cluster_types.specs.declared.journal.Action.{Action}
use Rattle.cluster_types.specs.declared.journal.Action.TheVariants.{Fence, Probe, Operation, MigrateTo, MigrateFrom}
use Rattle.cluster_types.specs.declared.leaf.Monitor.{Monitor as MonitorOf}
use Rattle.cluster_types.specs.declared.leaf.Op.{Op}
use Rattle.cluster_types.specs.declared.leaf.Op.TheVariants as op
use Rattle.cluster_types.specs.declared.leaf.Role.TheVariants as role
use Rattle.cluster_types.specs.declared.placement.Target.{Target}
use Rattle.cluster_types.specs.declared.rules.Colocation.{Colocation}
use Rattle.cluster_types.specs.declared.rules.Order.{Order}
use Rattle.cluster_types.specs.declared.states.CellState.{CellState}
use Rattle.cluster_types.specs.declared.states.NodeState.{NodeState}
use Rattle.cluster_types.specs.declared.states.CellState.TheVariants as cell
use Rattle.cluster_types.specs.Choice.{is_separation}
use Rattle.cluster_types.specs.Fields.{is_cloned, is_promotable, may_migrate, monitors}
use Rattle.cluster_types.specs.NeededActions.{is_monitor_for}
use Rattle.cluster_types.specs.NodeStates.{is_unclean_state}
use Rattle.cluster_types.specs.Pins.{is_unprobed_state}
use Rattle.cluster_types.specs.Precedence.{is_same_op, is_serialize}
use Rattle.planner.specs.CycledCells.{MarkedCells}
use Rattle.planner.specs.Inner.Levels.{steps_by}
use Rattle.planner.specs.declared.needed_actions.steps.CellNeed.{CellNeed}

abbrev pub includes_op : Op → List Op → Bool
includes_op o steps = list_any (is_same_op o) steps

abbrev pub is_filled : List Op → Bool
is_filled [] = false
is_filled (o ∷ os) = true

abbrev pub is_on_state : CellState → Bool
is_on_state cell.On = true
is_on_state _ = false

-- which leaves get a step anywhere keeps the first of the order from migrating, or its then
abbrev pub keeps_first : (ℕ → Bool) → Order → Bool
keeps_first touched o = (is_serialize o.kind || not (is_same_op o.first_op op.Start)) && touched o.then_leaf

abbrev pub keeps_then : (ℕ → Bool) → Order → Bool
keeps_then touched o = not (o.first == o.then_leaf) && touched o.first

abbrev pub is_harmless_order : (ℕ → Bool) → ℕ → Order → Bool
is_harmless_order touched r o = not (r == o.first && keeps_first touched o) && not (r == o.then_leaf && keeps_then touched o)

abbrev pub is_harmless_colocation : (ℕ → Bool) → ℕ → Colocation → Bool
is_harmless_colocation touched r col =
    not (r == col.dependent && (is_separation col && touched col.primary))
    && not (r == col.primary && (is_separation col && touched col.dependent))

-- no order keeps the leaf from migrating, and no colocation
abbrev pub is_left_by_orders : Cluster → (ℕ → Bool) → ℕ → Bool
is_left_by_orders c touched r = list_all (is_harmless_order touched r) c.orders

abbrev pub is_left_by_colocations : Cluster → (ℕ → Bool) → ℕ → Bool
is_left_by_colocations c touched r = list_all (is_harmless_colocation touched r) c.colocations

abbrev pub is_undisturbed : Cluster → (ℕ → Bool) → ℕ → Bool
is_undisturbed c touched r = is_left_by_orders c touched r && is_left_by_colocations c touched r

-- the monitors of a cell that aren't running, or all, by the bits of those that are
abbrev pub is_wanted : Target → Bool → ℕ → MonitorOf → Bool
is_wanted target any running m = is_monitor_for m.role target && (any || running % 2 == 0)

abbrev pub wanted : Target → Bool → ℕ → List MonitorOf → List MonitorOf
wanted target any running [] = []
wanted target any running (m ∷ ms) = (if is_wanted target any running m then m ∷ [] else []) ++ wanted target any (running / 2) ms

-- a leaf that is sent from one node is sent to each other
abbrev pub is_elsewhere : Option ℕ → ℕ → Bool
is_elsewhere None n = false
is_elsewhere (Some source) n = not (source == n)

abbrev pub step_action : ℕ → ℕ → Op → Action
step_action r n o = Operation o r n 0 role.Started

abbrev pub leaf_monitor : ℕ → ℕ → MonitorOf → Action
leaf_monitor r n m = Operation op.Monitor r n m.interval_ms m.role

-- where the leaf is sent to the node it isn't started there
abbrev pub stays_needed : Bool → Op → Bool
stays_needed is_sent_there o = not (is_sent_there && is_same_op op.Start o)

abbrev pub steps_in : (ℕ → ℕ → CellNeed) → MarkedCells → ℕ → ℕ → List Op
steps_in need marked r n = steps_by (need r n) (marked r n)

-- the fence of the node, where it is unclean and the cluster may fence
abbrev pub is_unclean_in : List NodeState → ℕ → Bool
is_unclean_in states n = option_map_or is_unclean_state (slice_get states n) false

abbrev pub fences_in : Bool → List NodeState → ℕ → List Action
fences_in may_fence states n = if may_fence && is_unclean_in states n then Fence n ∷ [] else []

abbrev pub all_fences : Cluster → Bool → List NodeState → List Action
all_fences c may_fence states = flat_map (fences_in may_fence states) (range_with_len 0 (length c.nodes))

-- the leaf may run on no other node
abbrev pub is_alone : Cluster → (ℕ → ℕ → CellNeed) → ℕ → ℕ → Bool
is_alone c need r n = list_all (λ k. n == k || not (need r k).may) (range_with_len 0 (length c.nodes))

-- the first node on which the leaf may run
abbrev pub first_node : Cluster → (ℕ → ℕ → CellNeed) → ℕ → Option ℕ
first_node c need r = find (λ n. (need r n).may) (range_with_len 0 (length c.nodes))

-- the leaf may be moved live, is no clone's and not promotable, and no rule keeps it from migrating
abbrev pub may_be_sent : Cluster → ℕ → Bool → Bool
may_be_sent c r free = may_migrate c r && not (is_cloned c r) && not (is_promotable c r) && free

abbrev pub probes_in : (ℕ → ℕ → CellNeed) → ℕ → ℕ → List Action
probes_in need r n = if is_unprobed_state (need r n).state then Probe r n ∷ [] else []

-- the migration of the leaf from one node to another, where it is to be started there
abbrev pub migrations_to : (ℕ → ℕ → CellNeed) → MarkedCells → ℕ → ℕ → ℕ → List Action
migrations_to need marked r n m =
    if not (n == m) && includes_op op.Start (steps_in need marked r m) then MigrateTo r n m ∷ MigrateFrom r n m ∷ [] else []

module _ (c : Cluster) (need : ℕ → ℕ → CellNeed) (marked : MarkedCells) where
  -- the leaf gets a step anywhere
  abbrev pub is_touched : ℕ → Bool
  is_touched r = list_any (λ n. is_filled (steps_in need marked r n)) (range_with_len 0 (length c.nodes))

  abbrev pub is_source : ℕ → ℕ → Bool
  is_source r n = is_alone c need r n && is_on_state (need r n).state && includes_op op.Stop (steps_in need marked r n)

  abbrev pub source_at : ℕ → Option ℕ → Option ℕ
  source_at r None = None
  source_at r (Some n) = if is_source r n then Some n else None

  -- the node from which the leaf is sent, if it may migrate at all
  abbrev pub migration_source : Bool → ℕ → Option ℕ
  migration_source free r =
      if may_be_sent c r free then source_at r (first_node c need r) else None

  abbrev pub monitors_in : ℕ → ℕ → List MonitorOf
  monitors_in r n =
      if (need r n).pinned then [] else wanted (need r n).target (is_filled (steps_in need marked r n)) (need r n).running (monitors c r)

  abbrev pub cell_actions : Option ℕ → ℕ → ℕ → List Action
  cell_actions source r n =
      probes_in need r n
      ++ (map (step_action r n) (filter (stays_needed (is_elsewhere source n)) (steps_in need marked r n))
      ++ map (leaf_monitor r n) (monitors_in r n))

  abbrev pub migrations_of : Option ℕ → ℕ → List Action
  migrations_of None r = []
  migrations_of (Some n) r = flat_map (migrations_to need marked r n) (range_with_len 0 (length c.nodes))

  abbrev pub leaf_actions : Option ℕ → ℕ → List Action
  leaf_actions source r = flat_map (cell_actions source r) (range_with_len 0 (length c.nodes)) ++ migrations_of source r

  -- of a leaf that may migrate, as far as rules go, or may not
  abbrev pub free_leaf_actions : Bool → ℕ → List Action
  free_leaf_actions free r = leaf_actions (migration_source free r) r

  abbrev pub leaves_actions : (ℕ → Bool) → List Action
  leaves_actions free = flat_map (λ r. free_leaf_actions (free r) r) (range_with_len 0 (length c.leaves))
