-- The cells of a side are within its leaves and nodes, where its actions are within the cluster.
use Rattle.std.proofs.Common.{if◌then◌else◌, Bool, true, false, List, None}
use Rattle.cluster_types.specs.declared.cluster.Cluster.{Cluster}
use Rattle.cluster_types.specs.declared.journal.Action.{Action}
use Rattle.cluster_types.specs.declared.journal.Action.TheVariants.{Fence, Probe, Operation, MigrateTo, MigrateFrom}
use Rattle.cluster_types.specs.declared.leaf.Op.{Op}
use Rattle.cluster_types.specs.declared.leaf.Op.TheVariants as op
use Rattle.cluster_types.specs.declared.leaf.Role.{Role}
use Rattle.cluster_types.specs.declared.leaf.Role.TheVariants as role
use Rattle.planner.specs.declared.precedence.sides.Side.{Side}
use Rattle.planner.specs.declared.precedence.sides.Side.TheVariants as side
use Rattle.cluster_types.specs.Precedence.{as_earlier, as_later, cell_of, gives_any, gives_role, is_migrating, op_cell, probe_cell, takes_or_probes}
use Rattle.planner.specs.Joins.{earlier_taker, side_key_of, later_demote, later_taker, take_cell}
use Rattle.planner.specs.Inner.Rooms.{rows_of, width_of}
use Rattle.planner.specs.ActionNames.{IsActionWithin}
use Rattle.planner.proofs.CellsWithin.{Here, In, alone_in, before_monitor_here, before_stop_here, by_leaf_in, fence_in, gives_here, in_leaf_in, op_here, probe_here, send_in, start_here, take_here, take_in_in, together_in}

module _ (c : Cluster) where
  role_here : (role : Role) (a : Action) → IsActionWithin c a → Here c (gives_role role a)
  role_here role.Started a h = start_here c a h
  role_here role.Promoted a h = op_here c op.Promote a h

  parts_here : (role : Role) (a : Action) → IsActionWithin c a → Here c (takes_or_probes role a)
  parts_here role.Started (Fence n) h = tt
  parts_here role.Started (Probe r n) h = h
  parts_here role.Started (Operation o r n i other) h = op_here c op.Stop (Operation o r n i other) h
  parts_here role.Started (MigrateTo r s t) h = tt
  parts_here role.Started (MigrateFrom r s t) h = tt
  parts_here role.Promoted (Fence n) h = tt
  parts_here role.Promoted (Probe r n) h = h
  parts_here role.Promoted (Operation op.Start r n i other) h = tt
  parts_here role.Promoted (Operation op.Stop r n i other) h = h
  parts_here role.Promoted (Operation op.Promote r n i other) h = tt
  parts_here role.Promoted (Operation op.Demote r n i other) h = h
  parts_here role.Promoted (Operation op.Monitor r n i other) h = tt
  parts_here role.Promoted (MigrateTo r s t) h = tt
  parts_here role.Promoted (MigrateFrom r s t) h = tt

  earlier_here : (o : Op) (a : Action) → IsActionWithin c a → Here c (as_earlier o a)
  earlier_here op.Start (Fence n) h = tt
  earlier_here op.Start (Probe r n) h = tt
  earlier_here op.Start (Operation o r n i role) h = op_here c op.Start (Operation o r n i role) h
  earlier_here op.Start (MigrateTo r s t) h = tt
  earlier_here op.Start (MigrateFrom r s t) h = (h.0, h.2)
  earlier_here op.Stop a h = op_here c op.Stop a h
  earlier_here op.Promote a h = op_here c op.Promote a h
  earlier_here op.Demote a h = op_here c op.Demote a h
  earlier_here op.Monitor a h = op_here c op.Monitor a h

  earlier_taker_here : (o : Op) (a : Action) → IsActionWithin c a → Here c (earlier_taker o a)
  earlier_taker_here op.Start a h = op_here c op.Stop a h
  earlier_taker_here op.Stop a h = tt
  earlier_taker_here op.Promote a h = take_here c a h
  earlier_taker_here op.Demote a h = tt
  earlier_taker_here op.Monitor a h = tt

  module _ (actions : List Action) where
    later_stop_here : (a : Action) → IsActionWithin c a → Here c (as_later actions op.Stop a)
    later_stop_here (Fence n) h = tt
    later_stop_here (Probe r n) h = tt
    later_stop_here (Operation op.Start r n i role) h = tt
    later_stop_here (Operation op.Stop r n i role) h = on (is_migrating actions r)
      where
        on : (b : Bool) → Here c (if b then None else cell_of r n)
        on true = tt
        on false = h
    later_stop_here (Operation op.Promote r n i role) h = tt
    later_stop_here (Operation op.Demote r n i role) h = tt
    later_stop_here (Operation op.Monitor r n i role) h = tt
    later_stop_here (MigrateTo r s t) h = (h.0, h.1)
    later_stop_here (MigrateFrom r s t) h = tt

    later_here : (o : Op) (a : Action) → IsActionWithin c a → Here c (as_later actions o a)
    later_here op.Start a h = start_here c a h
    later_here op.Stop a h = later_stop_here a h
    later_here op.Promote a h = op_here c op.Promote a h
    later_here op.Demote a h = op_here c op.Demote a h
    later_here op.Monitor a h = op_here c op.Monitor a h

    later_demote_here : (a : Action) → IsActionWithin c a → Here c (later_demote actions a)
    later_demote_here (Fence n) h = tt
    later_demote_here (Probe r n) h = tt
    later_demote_here (Operation op.Start r n i role) h = tt
    later_demote_here (Operation op.Stop r n i role) h = later_stop_here (Operation op.Stop r n i role) h
    later_demote_here (Operation op.Promote r n i role) h = tt
    later_demote_here (Operation op.Demote r n i role) h = h
    later_demote_here (Operation op.Monitor r n i role) h = tt
    later_demote_here (MigrateTo r s t) h = (h.0, h.1)
    later_demote_here (MigrateFrom r s t) h = tt

    later_taker_here : (o : Op) (a : Action) → IsActionWithin c a → Here c (later_taker actions o a)
    later_taker_here op.Start a h = later_stop_here a h
    later_taker_here op.Stop a h = tt
    later_taker_here op.Promote a h = later_demote_here a h
    later_taker_here op.Demote a h = tt
    later_taker_here op.Monitor a h = tt

    pub key_within : (s : Side) (a : Action) → IsActionWithin c a → In c (rows_of c s) (width_of c s) (side_key_of c actions s a)
    key_within side.Probes a h = by_leaf_in c (probe_cell a) (probe_here c a h)
    key_within side.Gives a h = by_leaf_in c (gives_any a) (gives_here c a h)
    key_within side.StopsAlone a h = alone_in c (op_cell op.Stop a) (op_here c op.Stop a h)
    key_within side.StartsAlone a h = alone_in c (op_cell op.Start a) (op_here c op.Start a h)
    key_within side.Fences a h = fence_in c a
    key_within side.GivesAnything a h = together_in c (gives_any a)
    key_within side.BeforeStops a h = before_stop_here c a h
    key_within side.Stops a h = op_here c op.Stop a h
    key_within side.Starts a h = op_here c op.Start a h
    key_within side.Promotes a h = op_here c op.Promote a h
    key_within side.BeforeMonitors a h = before_monitor_here c a h
    key_within side.Monitors a h = op_here c op.Monitor a h
    key_within side.Takes a h = by_leaf_in c (take_cell a) (take_here c a h)
    key_within side.PromotesOf a h = by_leaf_in c (op_cell op.Promote a) (op_here c op.Promote a h)
    key_within side.Sends a h = send_in c a h
    key_within side.TakesIn a h = take_in_in c a h
    key_within (side.Parts r role) a h = in_leaf_in c r true (takes_or_probes role a) (parts_here role a h)
    key_within (side.GivesRole r role) a h = in_leaf_in c r true (gives_role role a) (role_here role a h)
    key_within (side.Earlier r word local) a h = in_leaf_in c r local (as_earlier word a) (earlier_here word a h)
    key_within (side.EarlierTakers r word local) a h = in_leaf_in c r local (earlier_taker word a) (earlier_taker_here word a h)
    key_within (side.Later r word local) a h = in_leaf_in c r local (as_later actions word a) (later_here word a h)
    key_within (side.LaterTakers r word local) a h = in_leaf_in c r local (later_taker actions word a) (later_taker_here word a h)
