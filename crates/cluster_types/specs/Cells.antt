-- Of which cell an action is. A cell is a leaf on a node (rule of this project).
use Rattle.std.specs.Prelude.{ℕ, Bool, false, ◌==◌, ◌&&◌}
use Rattle.cluster_types.specs.declared.journal.Action.{Action}
use Rattle.cluster_types.specs.declared.journal.Action.TheVariants.{Fence, Probe, Operation, MigrateTo, MigrateFrom}
use Rattle.cluster_types.specs.declared.journal.Event.{Event}
use Rattle.cluster_types.specs.declared.journal.Event.TheVariants.{Up, Cleanup}

abbrev pub is_same_cell : ℕ → ℕ → ℕ → ℕ → Bool
is_same_cell r n leaf node = leaf == r && node == n

-- the action is of the cell: a migration is of its source while it sends, and of its target while it takes in
abbrev pub is_of_cell : ℕ → ℕ → Action → Bool
is_of_cell r n (Fence node) = false
is_of_cell r n (Probe leaf node) = is_same_cell r n leaf node
is_of_cell r n (Operation op leaf node interval role) = is_same_cell r n leaf node
is_of_cell r n (MigrateTo leaf source target) = is_same_cell r n leaf source
is_of_cell r n (MigrateFrom leaf source target) = is_same_cell r n leaf target

-- the action sends the leaf to the cell
abbrev pub is_sent_to : ℕ → ℕ → Action → Bool
is_sent_to r n (MigrateTo leaf source target) = is_same_cell r n leaf target
is_sent_to r n _ = false

-- the node joins, or what is known of the cell is forgotten: what was known before counts no more
abbrev pub is_reset : ℕ → ℕ → Event → Bool
is_reset r n (Up node) = node == n
is_reset r n (Cleanup leaf node) = is_same_cell r n leaf node
is_reset r n _ = false
