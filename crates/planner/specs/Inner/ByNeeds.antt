-- What an order marks, by a list of what cells need (follows from the definition of the cells that are cycled).
use Rattle.std.specs.Prelude.{ℕ, ◌&&◌, ◌||◌, Bool, true, false, if◌then◌else◌, List, slice_index_or, count_by}
use Rattle.std.specs.List.{range_with_len}
use Rattle.cluster_types.specs.declared.rules.Order.{Order}
use Rattle.cluster_types.specs.NeededActions.{has_disturbing}
use Rattle.cluster_types.specs.Precedence.{role_given}
use Rattle.cluster_types.specs.Tables.{target_holds}
use Rattle.cluster_types.specs.Terms.{is_active}
use Rattle.planner.specs.CycledCells.{MarkedCells}
use Rattle.planner.specs.Inner.Levels.{need_in, steps_by}
use Rattle.planner.specs.declared.needed_actions.steps.CellNeed.{CellNeed}

-- the first of the order is disturbed on node m
abbrev pub is_disturbed_by_needs : ℕ → List CellNeed → MarkedCells → Order → ℕ → Bool
is_disturbed_by_needs nodes needs marks o m =
    has_disturbing o.first_op (steps_by (need_in nodes needs o.first m) false)
    || marks o.first m && has_disturbing o.first_op (steps_by (need_in nodes needs o.first m) true)

-- its then is marked on node n, where the first is disturbed on the nodes with a flag, and so somewhere or nowhere
abbrev pub is_marked_on : ℕ → List CellNeed → Order → List Bool → Bool → ℕ → Bool
is_marked_on nodes needs o flags somewhere n =
    (need_in nodes needs o.then_leaf n).can_cycle && target_holds (need_in nodes needs o.then_leaf n).target (role_given o.then_op)
    && (if o.local then slice_index_or flags n false else somewhere)

-- in how many cells the leaf is active
abbrev pub needed_active_count : ℕ → List CellNeed → ℕ → ℕ
needed_active_count nodes needs r = count_by (λ n. is_active (need_in nodes needs r n).state) (range_with_len 0 nodes)
