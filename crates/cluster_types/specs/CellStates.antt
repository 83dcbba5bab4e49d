-- What a journal tells of a cell, a leaf on a node (Pacemaker Explained, operation history; the states and their order are a rule of this
-- project).
use Rattle.std.specs.Prelude.{ℕ, Bool, true, false, not, ◌==◌, ◌&&◌, ◌||◌, if◌then◌else◌, Option, None, is_none, List}
use Rattle.std.specs.List.{list_any, after_last, last_or}
use Rattle.std.specs.Option.{option_map_or}
use Rattle.cluster_types.specs.declared.cluster.Cluster.{Cluster}
use Rattle.cluster_types.specs.declared.journal.Action.{Action}
use Rattle.cluster_types.specs.declared.journal.Action.TheVariants.{Fence, Probe, Operation, MigrateTo}
use Rattle.cluster_types.specs.declared.journal.Event.{Event}
use Rattle.cluster_types.specs.declared.journal.Event.TheVariants.{Begin, Ended}
use Rattle.cluster_types.specs.declared.leaf.Op.TheVariants.{Monitor}
use Rattle.cluster_types.specs.declared.states.CellState.{CellState}
use Rattle.cluster_types.specs.declared.states.CellState.TheVariants as cell
use Rattle.cluster_types.specs.Cells.{is_of_cell, is_sent_to, is_reset}
use Rattle.cluster_types.specs.Failures.{outcomes, counted, is_outcome, is_failure}
use Rattle.cluster_types.specs.May.{may_be_running, may_be_promoted}
use Rattle.cluster_types.specs.NodeStates.{is_online}
use Rattle.cluster_types.specs.Outcomes.{effective_on_fail, is_block}

-- the last outcome of a cell that is in force
abbrev pub last_outcome : Cluster → ℕ → ℕ → List Event → Option Event
last_outcome c r n es = last_or None (outcomes c r n es)

abbrev pub asks_for_block : Cluster → Event → Bool
asks_for_block c (Ended k a o moment) = is_block (effective_on_fail c a)
asks_for_block c _ = false

-- the last failure that counts blocks the cell
abbrev pub is_blocked : Cluster → ℕ → ℕ → List Event → Bool
is_blocked c r n es = option_map_or (asks_for_block c) (last_or None (counted c r n es)) false

-- the event ends the sending of a migration, with whatever outcome
abbrev pub is_sent_away : Event → Bool
is_sent_away (Ended k (MigrateTo leaf source target) o moment) = true
is_sent_away _ = false

abbrev pub begins_sending_to : ℕ → ℕ → Event → Bool
begins_sending_to r n (Begin k a) = is_sent_to r n a
begins_sending_to r n _ = false

-- it is open what runs there: the last outcome is bad, or ended the sending of a migration from the cell, or a migration to the cell began after it
-- (what a migration leaves is a rule of this project)
abbrev pub is_unclear : Cluster → ℕ → ℕ → List Event → Bool
is_unclear c r n es =
    option_map_or (λ e. is_failure e || is_sent_away e) (last_outcome c r n es) false
    || list_any (begins_sending_to r n) (after_last (is_outcome c r n) es)

-- the state of a cell. The first that holds counts
abbrev pub cell_state : Cluster → ℕ → ℕ → List Event → CellState
cell_state c r n es =
    if not (is_online c n es) then cell.Away
    else (if is_none (last_outcome c r n es) then cell.Unprobed
    else (if is_blocked c r n es then cell.Blocked
    else (if may_be_running c r n es && is_unclear c r n es then cell.Failed
    else (if may_be_promoted c r n es then cell.Promoted
    else (if may_be_running c r n es then cell.On
    else cell.Off)))))

-- the action changes what runs in the cell
abbrev pub changes_cell : ℕ → ℕ → Action → Bool
changes_cell r n (Fence node) = false
changes_cell r n (Probe leaf node) = false
changes_cell r n (Operation Monitor leaf node interval role) = false
changes_cell r n a = is_of_cell r n a

-- the event ends what its monitors were doing: the node joined, the cell was cleaned up, or an action changed what runs there
abbrev pub ends_monitors : ℕ → ℕ → Event → Bool
ends_monitors r n (Begin k a) = changes_cell r n a
ends_monitors r n (Ended k a o moment) = changes_cell r n a
ends_monitors r n e = is_reset r n e

abbrev pub is_end_of_monitor : ℕ → ℕ → ℕ → Event → Bool
is_end_of_monitor r n interval (Ended k (Operation Monitor leaf node ms role) o moment) = is_of_cell r n (Operation Monitor leaf node ms role) && ms == interval
is_end_of_monitor r n interval _ = false

-- the monitor of this interval is running: an outcome of it, an ignored one too, came after all that ended it
abbrev pub is_monitor_running : ℕ → ℕ → ℕ → List Event → Bool
is_monitor_running r n interval es = list_any (is_end_of_monitor r n interval) (after_last (ends_monitors r n) es)
