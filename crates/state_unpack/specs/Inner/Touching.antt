-- Of which cells an event tells something (follows from the definitions of what events tell).
use Rattle.std.specs.Prelude.{ℕ, ◌==◌, ◌||◌, Bool, false}
use Rattle.cluster_types.specs.declared.journal.Action.{Action}
use Rattle.cluster_types.specs.declared.journal.Action.TheVariants.{Fence, Probe, Operation, MigrateTo, MigrateFrom}
use Rattle.cluster_types.specs.declared.journal.Event.{Event}
use Rattle.cluster_types.specs.declared.journal.Event.TheVariants.{Up, Down, Lost, Quorum, Wait, Cleanup, Begin, Ended}
use Rattle.cluster_types.specs.Cells.{is_same_cell}

-- the action tells something of the cell: a fence of all cells of its node, and a migration of the cells of both of its nodes
abbrev pub action_touches : ℕ → ℕ → Action → Bool
action_touches r n (Fence node) = node == n
action_touches r n (Probe leaf node) = is_same_cell r n leaf node
action_touches r n (Operation op leaf node interval role) = is_same_cell r n leaf node
action_touches r n (MigrateTo leaf source target) = is_same_cell r n leaf source || is_same_cell r n leaf target
action_touches r n (MigrateFrom leaf source target) = is_same_cell r n leaf source || is_same_cell r n leaf target

-- so does the event
abbrev pub touches : ℕ → ℕ → Event → Bool
touches r n (Up node) = node == n
touches r n (Down node) = node == n
touches r n (Lost node) = node == n
touches r n (Quorum now) = false
touches r n (Wait seconds) = false
touches r n (Cleanup leaf node) = is_same_cell r n leaf node
touches r n (Begin k a) = action_touches r n a
touches r n (Ended k a o moment) = action_touches r n a
