-- A simulated cluster: what really runs, and what each action does to it (rule of this project).
use Rattle.std.specs.Prelude.{ℕ, ◌==◌, ◌&&◌, nat_lt, Bool, true, false, is_none, if◌then◌else◌, Option, Some, None, List, length}
use Rattle.cluster_types.specs.declared.cluster.Cluster.{Cluster}
use Rattle.cluster_types.specs.declared.journal.Action.{Action}
use Rattle.cluster_types.specs.declared.journal.Action.TheVariants.{Fence, Probe, Operation, MigrateTo, MigrateFrom}
use Rattle.cluster_types.specs.declared.journal.Event.{Event}
use Rattle.cluster_types.specs.declared.leaf.Op.{Op}
use Rattle.cluster_types.specs.declared.leaf.Op.TheVariants.{Start, Stop, Promote, Demote, Monitor}
use Rattle.cluster_types.specs.Cells.{is_same_cell}
use Rattle.cluster_types.specs.CellStates.{last_outcome}
use Rattle.cluster_types.specs.ExitCodes.{success, not_running, running_promoted}
use Rattle.cluster_types.specs.Fields.{is_promotable}
use Rattle.cluster_types.specs.Journals.{NodeSign, joined, went_down, was_lost, was_fenced, last_sign}
use Rattle.cluster_types.specs.May.{may_be_running, may_be_promoted}
use Rattle.simulated.specs.declared.real.Real.{Real}
use Rattle.simulated.specs.declared.real.Real.TheVariants as real
use Rattle.simulated.specs.declared.real.Standing.{Standing}
use Rattle.simulated.specs.declared.real.Standing.TheVariants as standing

-- what each leaf really does on each node
abbrev pub Cells : Type 0
Cells = ℕ → ℕ → Real

-- a simulated cluster: how its nodes stand, what runs, how many numbers were drawn, and how many faults it was given
pub record RealWorld : Type 0 where
  pub nodes : ℕ → Standing
  pub cells : Cells
  pub drawn : ℕ
  pub faults : ℕ

-- something is there: it runs, or comes up
abbrev pub is_there : Real → Bool
is_there real.Off = false
is_there _ = true

abbrev pub is_really_promoted : Real → Bool
is_really_promoted real.Promoted = true
is_really_promoted _ = false

-- it comes up
abbrev pub is_rising : Real → Bool
is_rising real.Rising = true
is_rising _ = false

abbrev pub is_node_up : Standing → Bool
is_node_up standing.Up = true
is_node_up _ = false

abbrev pub is_node_off : Standing → Bool
is_node_off standing.Off = true
is_node_off _ = false

-- the cluster has the cell
abbrev pub is_cell : Cluster → ℕ → ℕ → Bool
is_cell c r n = nat_lt r (length c.leaves) && nat_lt n (length c.nodes)

-- what is found in a cell; in one that the cluster doesn't have, nothing
abbrev pub found_at : Cluster → Cells → ℕ → ℕ → Real
found_at c cells r n = if is_cell c r n then cells r n else real.Off

-- how a node stands by the last that a journal shows of it. Without fencing a lost node has stopped, as the configuration takes it
abbrev pub standing_by : Cluster → Option NodeSign → Standing
standing_by c (Some joined) = standing.Up
standing_by c (Some was_lost) = if c.properties.fencing then standing.Lost else standing.Off
standing_by c (Some went_down) = standing.Off
standing_by c (Some was_fenced) = standing.Off
standing_by c None = standing.Off

-- what runs after a journal: what may run by it, where an outcome of the cell is in force; elsewhere nothing
abbrev pub first_real : Cluster → List Event → Cells
first_real c es r n =
    if is_none (last_outcome c r n es) then real.Off
    else (if may_be_promoted c r n es then real.Promoted
    else (if may_be_running c r n es then real.Started
    else real.Off))

-- a simulated cluster after a journal, of which nothing was drawn yet
abbrev pub first_world : Cluster → List Event → RealWorld
first_world c es = record {
  nodes = λ n. standing_by c (last_sign n es);
  cells = first_real c es;
  drawn = 0;
  faults = 0;
}

-- what comes up has come up
abbrev pub risen : Real → Real
risen real.Off = real.Off
risen real.Rising = real.Started
risen real.Started = real.Started
risen real.Promoted = real.Promoted

-- the cell of a leaf on a node changes so, and no other
abbrev pub with_changed_cell : ℕ → ℕ → (Real → Real) → Cells → Cells
with_changed_cell leaf node change cells r n = if is_same_cell r n leaf node then change (cells r n) else cells r n

-- nothing runs on this node any more
abbrev pub without_node : ℕ → Cells → Cells
without_node node cells r n = if node == n then real.Off else cells r n

-- a start that finds nothing lets it come up
abbrev pub rising_from : Real → Real
rising_from real.Off = real.Rising
rising_from real.Rising = real.Rising
rising_from real.Started = real.Started
rising_from real.Promoted = real.Promoted

abbrev pub demoted : Real → Real
demoted real.Off = real.Off
demoted real.Rising = real.Rising
demoted real.Started = real.Started
demoted real.Promoted = real.Started

-- the exit code of an agent that looks
abbrev pub code_of_look : Real → ℕ
code_of_look real.Off = not_running
code_of_look real.Rising = success
code_of_look real.Started = success
code_of_look real.Promoted = running_promoted

module _ (c : Cluster) where
  -- what an operation that is done makes of its cell
  abbrev pub after_op : Op → ℕ → Real → Real
  after_op Start leaf before = real.Started
  after_op Stop leaf before = real.Off
  after_op Promote leaf before = if is_promotable c leaf then real.Promoted else real.Started
  after_op Demote leaf before = demoted before
  after_op Monitor leaf before = before

  -- the cells when an action has begun. When its migrate_to begins, a leaf that is there on the source runs on the target too
  abbrev pub begun : Action → Cells → Cells
  begun (MigrateTo leaf source target) cells =
      if is_there (found_at c cells leaf source) then with_changed_cell leaf target (λ x. real.Started) cells else cells
  begun (Fence node) cells = cells
  begun (Probe leaf node) cells = cells
  begun (Operation op leaf node interval role) cells = cells
  begun (MigrateFrom leaf source target) cells = cells

  -- the cells when it is done. What was sent runs no more on its source, if it is there on the target
  abbrev pub done : Action → Cells → Cells
  done (Fence node) cells = without_node node cells
  done (Probe leaf node) cells = cells
  done (Operation op leaf node interval role) cells = with_changed_cell leaf node (after_op op leaf) cells
  done (MigrateTo leaf source target) cells =
      if is_there (found_at c cells leaf target) then with_changed_cell leaf source (λ x. real.Off) cells else cells
  done (MigrateFrom leaf source target) cells = cells

  -- the cells when nothing is done. A leaf that was to be sent stops on its target, if it is there on its source
  abbrev pub undone : Action → Cells → Cells
  undone (MigrateTo leaf source target) cells =
      if is_there (found_at c cells leaf source) then with_changed_cell leaf target (λ x. real.Off) cells else cells
  undone (Fence node) cells = cells
  undone (Probe leaf node) cells = cells
  undone (Operation op leaf node interval role) cells = cells
  undone (MigrateFrom leaf source target) cells = cells

  -- the cells when it isn't done in time: what a start finds off comes up later
  abbrev pub given_up_op : Op → ℕ → ℕ → Cells → Cells
  given_up_op Start leaf node cells = with_changed_cell leaf node rising_from cells
  given_up_op Stop leaf node cells = cells
  given_up_op Promote leaf node cells = cells
  given_up_op Demote leaf node cells = cells
  given_up_op Monitor leaf node cells = cells

  -- the same of each action; a migration is undone
  abbrev pub given_up : Action → Cells → Cells
  given_up (Operation op leaf node interval role) cells = given_up_op op leaf node cells
  given_up (MigrateTo leaf source target) cells = undone (MigrateTo leaf source target) cells
  given_up (Fence node) cells = cells
  given_up (Probe leaf node) cells = cells
  given_up (MigrateFrom leaf source target) cells = cells

  -- the exit code with which an action ends that does what it is for
  abbrev pub true_code : Action → Cells → ℕ
  true_code (Probe leaf node) cells = code_of_look (found_at c cells leaf node)
  true_code (Operation Monitor leaf node interval role) cells = code_of_look (found_at c cells leaf node)
  true_code (Operation Start leaf node interval role) cells = success
  true_code (Operation Stop leaf node interval role) cells = success
  true_code (Operation Promote leaf node interval role) cells = success
  true_code (Operation Demote leaf node interval role) cells = success
  true_code (Fence node) cells = success
  true_code (MigrateTo leaf source target) cells = success
  true_code (MigrateFrom leaf source target) cells = success
