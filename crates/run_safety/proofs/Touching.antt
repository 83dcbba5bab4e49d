-- Which actions can change whether a leaf may run or be promoted on a node.
use Rattle.std.proofs.Common.{ℕ}
use Rattle.std.specs.Prelude.{◌==◌, Bool, true, false}
use Rattle.cluster_types.specs.declared.journal.Action.{Action}
use Rattle.cluster_types.specs.declared.journal.Action.TheVariants.{Fence, Probe, Operation, MigrateTo, MigrateFrom}
use Rattle.cluster_types.specs.declared.leaf.Op.TheVariants.{Start, Stop, Promote, Demote, Monitor}
use Rattle.cluster_types.specs.declared.leaf.Role.TheVariants as role
use Rattle.cluster_types.specs.Cells.{is_same_cell}

-- the leaf may run there from its begin or its success on
abbrev pub gives_run : ℕ → ℕ → Action → Bool
gives_run r n (Operation Start leaf node interval held) = is_same_cell r n leaf node
gives_run r n (Operation Promote leaf node interval held) = is_same_cell r n leaf node
gives_run r n (Operation Demote leaf node interval held) = is_same_cell r n leaf node
gives_run r n (Operation Monitor leaf node interval held) = is_same_cell r n leaf node
gives_run r n (MigrateTo leaf source target) = is_same_cell r n leaf target
gives_run r n (MigrateFrom leaf source target) = is_same_cell r n leaf target
gives_run r n _ = false

-- its success shows that the leaf doesn't run there
abbrev pub takes_run : ℕ → ℕ → Action → Bool
takes_run r n (Fence node) = node == n
takes_run r n (Probe leaf node) = is_same_cell r n leaf node
takes_run r n (Operation Stop leaf node interval held) = is_same_cell r n leaf node
takes_run r n _ = false

-- the leaf may be promoted there from its begin or its success on
abbrev pub gives_promoted : ℕ → ℕ → Action → Bool
gives_promoted r n (Operation Promote leaf node interval held) = is_same_cell r n leaf node
gives_promoted r n (Operation Monitor leaf node interval role.Promoted) = is_same_cell r n leaf node
gives_promoted r n _ = false

-- its success shows that the leaf isn't promoted there
abbrev pub takes_promoted : ℕ → ℕ → Action → Bool
takes_promoted r n (Fence node) = node == n
takes_promoted r n (Probe leaf node) = is_same_cell r n leaf node
takes_promoted r n (Operation Start leaf node interval held) = is_same_cell r n leaf node
takes_promoted r n (Operation Stop leaf node interval held) = is_same_cell r n leaf node
takes_promoted r n (Operation Demote leaf node interval held) = is_same_cell r n leaf node
takes_promoted r n (Operation Monitor leaf node interval role.Started) = is_same_cell r n leaf node
takes_promoted r n _ = false

-- an action whose success always shows what it may show
abbrev pub is_sure : Action → Bool
is_sure (Operation Monitor leaf node interval held) = false
is_sure _ = true
