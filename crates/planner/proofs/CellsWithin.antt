-- The cells by which actions stand on a side are within the cluster where the actions are.
use Rattle.std.proofs.Common.{arith, ◌<◌, ◌==◌, nat_lt, if◌then◌else◌, ℕ, Bool, true, false, Option, Some, None, length, IfSome}
use Rattle.cluster_types.specs.declared.cluster.Cluster.{Cluster}
use Rattle.cluster_types.specs.declared.journal.Action.{Action}
use Rattle.cluster_types.specs.declared.journal.Action.TheVariants.{Fence, Probe, Operation, MigrateTo, MigrateFrom}
use Rattle.cluster_types.specs.declared.leaf.Op.{Op}
use Rattle.cluster_types.specs.declared.leaf.Op.TheVariants as op
use Rattle.cluster_types.specs.Fields.{copies}
use Rattle.cluster_types.specs.Precedence.{LeafOnNode, cell_of, step_cell, gives_any, is_same_op, op_cell, probe_cell, start_cell}
use Rattle.planner.specs.Joins.{alone, before_monitor, before_stop, by_leaf, fence_cell, in_leaf, send_cell, take_cell, take_in_cell, same_join_cell}
use Rattle.planner.specs.Inner.Rooms.{nodes_if}
use Rattle.planner.specs.ActionNames.{IsActionWithin}

module _ (c : Cluster) where
  abbrev pub In : ℕ → ℕ → Option LeafOnNode → Type 0
  In rows width u = IfSome u (λ k. (k.leaf < rows) × (k.node < width))

  abbrev pub Here : Option LeafOnNode → Type 0
  Here u = In (length c.leaves) (length c.nodes) u

  pub op_here : (o : Op) (a : Action) → IsActionWithin c a → Here (op_cell o a)
  op_here o (Fence n) h = tt
  op_here o (Probe r n) h = tt
  op_here o (Operation p r n i role) h = on (is_same_op o p)
    where
      on : (b : Bool) → Here (if b then cell_of r n else None)
      on true = h
      on false = tt
  op_here o (MigrateTo r s t) h = tt
  op_here o (MigrateFrom r s t) h = tt

  pub probe_here : (a : Action) → IsActionWithin c a → Here (probe_cell a)
  probe_here (Fence n) h = tt
  probe_here (Probe r n) h = h
  probe_here (Operation p r n i role) h = tt
  probe_here (MigrateTo r s t) h = tt
  probe_here (MigrateFrom r s t) h = tt

  pub start_here : (a : Action) → IsActionWithin c a → Here (start_cell a)
  start_here (Fence n) h = tt
  start_here (Probe r n) h = tt
  start_here (Operation p r n i role) h = op_here op.Start (Operation p r n i role) h
  start_here (MigrateTo r s t) h = (h.0, h.2)
  start_here (MigrateFrom r s t) h = tt

  pub gives_here : (a : Action) → IsActionWithin c a → Here (gives_any a)
  gives_here (Fence n) h = tt
  gives_here (Probe r n) h = tt
  gives_here (Operation op.Start r n i role) h = h
  gives_here (Operation op.Stop r n i role) h = tt
  gives_here (Operation op.Promote r n i role) h = h
  gives_here (Operation op.Demote r n i role) h = tt
  gives_here (Operation op.Monitor r n i role) h = tt
  gives_here (MigrateTo r s t) h = (h.0, h.2)
  gives_here (MigrateFrom r s t) h = tt

  pub change_here : (a : Action) → IsActionWithin c a → Here (step_cell a)
  change_here (Fence n) h = tt
  change_here (Probe r n) h = tt
  change_here (Operation op.Start r n i role) h = h
  change_here (Operation op.Stop r n i role) h = h
  change_here (Operation op.Promote r n i role) h = h
  change_here (Operation op.Demote r n i role) h = h
  change_here (Operation op.Monitor r n i role) h = tt
  change_here (MigrateTo r s t) h = tt
  change_here (MigrateFrom r s t) h = tt

  pub before_stop_here : (a : Action) → IsActionWithin c a → Here (before_stop a)
  before_stop_here (Fence n) h = tt
  before_stop_here (Probe r n) h = tt
  before_stop_here (Operation p r n i role) h = op_here op.Demote (Operation p r n i role) h
  before_stop_here (MigrateTo r s t) h = tt
  before_stop_here (MigrateFrom r s t) h = (h.0, h.1)

  pub before_monitor_here : (a : Action) → IsActionWithin c a → Here (before_monitor a)
  before_monitor_here (Fence n) h = tt
  before_monitor_here (Probe r n) h = tt
  before_monitor_here (Operation p r n i role) h = change_here (Operation p r n i role) h
  before_monitor_here (MigrateTo r s t) h = tt
  before_monitor_here (MigrateFrom r s t) h = (h.0, h.2)

  pub take_here : (a : Action) → IsActionWithin c a → Here (take_cell a)
  take_here (Fence n) h = tt
  take_here (Probe r n) h = tt
  take_here (Operation op.Start r n i role) h = tt
  take_here (Operation op.Stop r n i role) h = h
  take_here (Operation op.Promote r n i role) h = tt
  take_here (Operation op.Demote r n i role) h = h
  take_here (Operation op.Monitor r n i role) h = tt
  take_here (MigrateTo r s t) h = tt
  take_here (MigrateFrom r s t) h = tt

  pub by_leaf_in : (u : Option LeafOnNode) → Here u → In (length c.leaves) 1 (by_leaf u)
  by_leaf_in (Some a) h = (h.0, omega arith)
  by_leaf_in None h = tt

  pub together_in : (u : Option LeafOnNode) → In 1 1 (same_join_cell u)
  together_in (Some a) = (omega arith, omega arith)
  together_in None = tt

  pub alone_in : (u : Option LeafOnNode) → Here u → Here (alone c u)
  alone_in (Some a) h = (h.0, on (nat_lt (copies c a.leaf) (length c.nodes)))
    where
      on : (b : Bool) → (if b then 0 else a.node) < length c.nodes
      on true = let l = h.1 in omega arith
      on false = h.1
  alone_in None h = tt

  pub in_leaf_in : (r : ℕ) (by_node : Bool) (u : Option LeafOnNode) → Here u → In 1 (nodes_if c by_node) (in_leaf r by_node u)
  in_leaf_in r by_node (Some a) h = on (a.leaf == r) by_node
    where
      on : (b d : Bool) → In 1 (nodes_if c d) (if b then cell_of 0 (if d then a.node else 0) else None)
      on true true = (omega arith, h.1)
      on true false = (omega arith, omega arith)
      on false d = tt
  in_leaf_in r by_node None h = tt

  pub fence_in : (a : Action) → In 1 1 (fence_cell a)
  fence_in (Fence n) = (omega arith, omega arith)
  fence_in (Probe r n) = tt
  fence_in (Operation p r n i role) = tt
  fence_in (MigrateTo r s t) = tt
  fence_in (MigrateFrom r s t) = tt

  pub send_in : (a : Action) → IsActionWithin c a → In (length c.leaves) 1 (send_cell a)
  send_in (Fence n) h = tt
  send_in (Probe r n) h = tt
  send_in (Operation p r n i role) h = tt
  send_in (MigrateTo r s t) h = (h.0, omega arith)
  send_in (MigrateFrom r s t) h = tt

  pub take_in_in : (a : Action) → IsActionWithin c a → In (length c.leaves) 1 (take_in_cell a)
  take_in_in (Fence n) h = tt
  take_in_in (Probe r n) h = tt
  take_in_in (Operation p r n i role) h = tt
  take_in_in (MigrateTo r s t) h = tt
  take_in_in (MigrateFrom r s t) h = (h.0, omega arith)
