-- Of which leaf an action is.
use Rattle.std.specs.Prelude.{ℕ, Bool, if◌then◌else◌, Option, None, []}
use Rattle.cluster_types.specs.declared.cluster.Cluster.{Cluster}
use Rattle.cluster_types.specs.declared.journal.Action.{Action}
use Rattle.cluster_types.specs.declared.journal.Action.TheVariants.{Fence, Probe, Operation, MigrateTo, MigrateFrom}
use Rattle.cluster_types.specs.declared.leaf.Op.{Op}
use Rattle.cluster_types.specs.declared.leaf.Op.TheVariants as op
use Rattle.planner.specs.declared.precedence.sides.Side.{Side}
use Rattle.planner.specs.declared.precedence.sides.Side.TheVariants as side
use Rattle.cluster_types.specs.Precedence.{LeafOnNode, cell_of, op_cell, start_cell}
use Rattle.planner.specs.Joins.{in_leaf, side_key_of}

-- the leaf of an action, and 0 for a fence, which has none
abbrev pub action_leaf : Action → ℕ
action_leaf (Fence n) = 0
action_leaf (Probe r n) = r
action_leaf (Operation o r n interval role) = r
action_leaf (MigrateTo r source target) = r
action_leaf (MigrateFrom r source target) = r

-- the later of a pair, where it is known whether the leaf of the action migrates
abbrev pub later_stop : Bool → Action → Option LeafOnNode
later_stop migrates (MigrateTo r source target) = cell_of r source
later_stop migrates (Operation op.Stop r n interval role) = if migrates then None else cell_of r n
later_stop migrates _ = None

abbrev pub later_by : Bool → Op → Action → Option LeafOnNode
later_by migrates op.Start a = start_cell a
later_by migrates op.Stop a = later_stop migrates a
later_by migrates o a = op_cell o a

abbrev pub later_demote_by : Bool → Action → Option LeafOnNode
later_demote_by migrates (Operation op.Demote r n interval role) = cell_of r n
later_demote_by migrates a = later_stop migrates a

abbrev pub later_taker_by : Bool → Op → Action → Option LeafOnNode
later_taker_by migrates op.Start a = later_stop migrates a
later_taker_by migrates op.Promote a = later_demote_by migrates a
later_taker_by migrates _ a = None

-- by which cell an action stands on a side. The other sides don't ask whether its leaf migrates
abbrev pub key_by : Cluster → Bool → Side → Action → Option LeafOnNode
key_by c migrates (side.Later r word local) a = in_leaf r local (later_by migrates word a)
key_by c migrates (side.LaterTakers r word local) a = in_leaf r local (later_taker_by migrates word a)
key_by c migrates other a = side_key_of c [] other a
