-- Whatever stands on a side of a rule is an action of its leaf.
use Rattle.std.proofs.Common.{◌≡◌, ◌==◌, if◌then◌else◌, ℕ, Bool, true, false, List, Option, Some, None, IfSome, refl, subst}
use Rattle.std.proofs.lemmas.Bool.{eqb-true}
use Rattle.lemmas.proofs.Booleans.{number_itself}
use Rattle.cluster_types.specs.declared.cluster.Cluster.{Cluster}
use Rattle.cluster_types.specs.declared.journal.Action.{Action}
use Rattle.cluster_types.specs.declared.journal.Action.TheVariants.{Fence, Probe, Operation, MigrateTo, MigrateFrom}
use Rattle.cluster_types.specs.declared.leaf.Op.{Op}
use Rattle.cluster_types.specs.declared.leaf.Op.TheVariants as op
use Rattle.cluster_types.specs.declared.leaf.Role.{Role}
use Rattle.cluster_types.specs.declared.leaf.Role.TheVariants as role
use Rattle.cluster_types.specs.Precedence.{LeafOnNode, as_earlier, as_later, cell_of, gives_role, is_migrating, is_same_op, op_cell, start_cell, takes_or_probes}
use Rattle.planner.specs.declared.precedence.sides.Side.{Side}
use Rattle.planner.specs.declared.precedence.sides.Side.TheVariants as side
use Rattle.planner.specs.Joins.{earlier_taker, in_leaf, side_key_of, later_demote, later_taker, take_cell}
use Rattle.planner.specs.Inner.Places.{is_of_leaf, side_leaf}

-- the cell is of a leaf of which the action is
abbrev Of : Action → Option LeafOnNode → Type 0
Of a u = IfSome u (λ k. is_of_leaf k.leaf a ≡ true)

op_of : (o : Op) (a : Action) → Of a (op_cell o a)
op_of o (Fence n) = tt
op_of o (Probe r n) = tt
op_of o (Operation p r n i role) = on (is_same_op o p)
  where
    on : (b : Bool) → Of (Operation p r n i role) (if b then cell_of r n else None)
    on true = number_itself r
    on false = tt
op_of o (MigrateTo r s t) = tt
op_of o (MigrateFrom r s t) = tt

start_of : (a : Action) → Of a (start_cell a)
start_of (Fence n) = tt
start_of (Probe r n) = tt
start_of (Operation p r n i role) = op_of op.Start (Operation p r n i role)
start_of (MigrateTo r s t) = number_itself r
start_of (MigrateFrom r s t) = tt

role_of : (role : Role) (a : Action) → Of a (gives_role role a)
role_of role.Started a = start_of a
role_of role.Promoted a = op_of op.Promote a

parts_of : (role : Role) (a : Action) → Of a (takes_or_probes role a)
parts_of role.Started (Fence n) = tt
parts_of role.Started (Probe r n) = number_itself r
parts_of role.Started (Operation o r n i other) = op_of op.Stop (Operation o r n i other)
parts_of role.Started (MigrateTo r s t) = tt
parts_of role.Started (MigrateFrom r s t) = tt
parts_of role.Promoted (Fence n) = tt
parts_of role.Promoted (Probe r n) = number_itself r
parts_of role.Promoted (Operation op.Start r n i other) = tt
parts_of role.Promoted (Operation op.Stop r n i other) = number_itself r
parts_of role.Promoted (Operation op.Promote r n i other) = tt
parts_of role.Promoted (Operation op.Demote r n i other) = number_itself r
parts_of role.Promoted (Operation op.Monitor r n i other) = tt
parts_of role.Promoted (MigrateTo r s t) = tt
parts_of role.Promoted (MigrateFrom r s t) = tt

earlier_of : (o : Op) (a : Action) → Of a (as_earlier o a)
earlier_of op.Start (Fence n) = tt
earlier_of op.Start (Probe r n) = tt
earlier_of op.Start (Operation o r n i role) = op_of op.Start (Operation o r n i role)
earlier_of op.Start (MigrateTo r s t) = tt
earlier_of op.Start (MigrateFrom r s t) = number_itself r
earlier_of op.Stop a = op_of op.Stop a
earlier_of op.Promote a = op_of op.Promote a
earlier_of op.Demote a = op_of op.Demote a
earlier_of op.Monitor a = op_of op.Monitor a

take_of : (a : Action) → Of a (take_cell a)
take_of (Fence n) = tt
take_of (Probe r n) = tt
take_of (Operation op.Start r n i role) = tt
take_of (Operation op.Stop r n i role) = number_itself r
take_of (Operation op.Promote r n i role) = tt
take_of (Operation op.Demote r n i role) = number_itself r
take_of (Operation op.Monitor r n i role) = tt
take_of (MigrateTo r s t) = tt
take_of (MigrateFrom r s t) = tt

earlier_taker_of : (o : Op) (a : Action) → Of a (earlier_taker o a)
earlier_taker_of op.Start a = op_of op.Stop a
earlier_taker_of op.Stop a = tt
earlier_taker_of op.Promote a = take_of a
earlier_taker_of op.Demote a = tt
earlier_taker_of op.Monitor a = tt

module _ (actions : List Action) where
  later_stop_of : (a : Action) → Of a (as_later actions op.Stop a)
  later_stop_of (Fence n) = tt
  later_stop_of (Probe r n) = tt
  later_stop_of (Operation op.Start r n i role) = tt
  later_stop_of (Operation op.Stop r n i role) = on (is_migrating actions r)
    where
      on : (b : Bool) → Of (Operation op.Stop r n i role) (if b then None else cell_of r n)
      on true = tt
      on false = number_itself r
  later_stop_of (Operation op.Promote r n i role) = tt
  later_stop_of (Operation op.Demote r n i role) = tt
  later_stop_of (Operation op.Monitor r n i role) = tt
  later_stop_of (MigrateTo r s t) = number_itself r
  later_stop_of (MigrateFrom r s t) = tt

  later_of : (o : Op) (a : Action) → Of a (as_later actions o a)
  later_of op.Start a = start_of a
  later_of op.Stop a = later_stop_of a
  later_of op.Promote a = op_of op.Promote a
  later_of op.Demote a = op_of op.Demote a
  later_of op.Monitor a = op_of op.Monitor a

  later_demote_of : (a : Action) → Of a (later_demote actions a)
  later_demote_of (Fence n) = tt
  later_demote_of (Probe r n) = tt
  later_demote_of (Operation op.Start r n i role) = tt
  later_demote_of (Operation op.Stop r n i role) = later_stop_of (Operation op.Stop r n i role)
  later_demote_of (Operation op.Promote r n i role) = tt
  later_demote_of (Operation op.Demote r n i role) = number_itself r
  later_demote_of (Operation op.Monitor r n i role) = tt
  later_demote_of (MigrateTo r s t) = number_itself r
  later_demote_of (MigrateFrom r s t) = tt

  later_taker_of : (o : Op) (a : Action) → Of a (later_taker actions o a)
  later_taker_of op.Start a = later_stop_of a
  later_taker_of op.Stop a = tt
  later_taker_of op.Promote a = later_demote_of a
  later_taker_of op.Demote a = tt
  later_taker_of op.Monitor a = tt

  -- what stands on a side by a leaf alone is an action of the leaf
  in_leaf_of : (r : ℕ) (by_node : Bool) (u : Option LeafOnNode) (a : Action) → Of a u → (k : LeafOnNode) → in_leaf r by_node u ≡ Some k → is_of_leaf r a ≡ true
  in_leaf_of r by_node (Some b) a h k e = on (b.leaf == r) refl e
    where
      on : (p : Bool) → (b.leaf == r) ≡ p → (if p then cell_of 0 (if by_node then b.node else 0) else None) ≡ Some k → is_of_leaf r a ≡ true
      on true q e = subst (λ v. is_of_leaf v a ≡ true) (eqb-true b.leaf r q) h
      on false q e = cc
  in_leaf_of r by_node None a h k e = cc

  module _ (c : Cluster) (a : Action) (k : LeafOnNode) where
    pub of_side : (s : Side) (r : ℕ) → side_leaf s ≡ Some r → side_key_of c actions s a ≡ Some k → is_of_leaf r a ≡ true
    of_side (side.Parts q role) r e h = subst (λ v. is_of_leaf v a ≡ true) (some e) (in_leaf_of q true (takes_or_probes role a) a (parts_of role a) k h)
      where
        some : Some q ≡ Some r → q ≡ r
        some e = cc
    of_side (side.GivesRole q role) r e h = subst (λ v. is_of_leaf v a ≡ true) (some e) (in_leaf_of q true (gives_role role a) a (role_of role a) k h)
      where
        some : Some q ≡ Some r → q ≡ r
        some e = cc
    of_side (side.Earlier q word local) r e h = subst (λ v. is_of_leaf v a ≡ true) (some e) (in_leaf_of q local (as_earlier word a) a (earlier_of word a) k h)
      where
        some : Some q ≡ Some r → q ≡ r
        some e = cc
    of_side (side.EarlierTakers q word local) r e h = subst (λ v. is_of_leaf v a ≡ true) (some e) (in_leaf_of q local (earlier_taker word a) a (earlier_taker_of word a) k h)
      where
        some : Some q ≡ Some r → q ≡ r
        some e = cc
    of_side (side.Later q word local) r e h = subst (λ v. is_of_leaf v a ≡ true) (some e) (in_leaf_of q local (as_later actions word a) a (later_of word a) k h)
      where
        some : Some q ≡ Some r → q ≡ r
        some e = cc
    of_side (side.LaterTakers q word local) r e h = subst (λ v. is_of_leaf v a ≡ true) (some e) (in_leaf_of q local (later_taker actions word a) a (later_taker_of word a) k h)
      where
        some : Some q ≡ Some r → q ≡ r
        some e = cc
    of_side side.Probes r e h = cc
    of_side side.Gives r e h = cc
    of_side side.StopsAlone r e h = cc
    of_side side.StartsAlone r e h = cc
    of_side side.Fences r e h = cc
    of_side side.GivesAnything r e h = cc
    of_side side.BeforeStops r e h = cc
    of_side side.Stops r e h = cc
    of_side side.Starts r e h = cc
    of_side side.Promotes r e h = cc
    of_side side.BeforeMonitors r e h = cc
    of_side side.Monitors r e h = cc
    of_side side.Takes r e h = cc
    of_side side.PromotesOf r e h = cc
    of_side side.Sends r e h = cc
    of_side side.TakesIn r e h = cc
