-- Two actions whose cells pass a test, and as what an action counts: as what gives some role, and as one of the four that change a cell.
use Rattle.std.proofs.Common.{◌≡◌, ◌≢◌, if◌then◌else◌, ℕ, Bool, true, false, Option, Some, None, refl}
use Rattle.cluster_types.specs.declared.journal.Action.{Action}
use Rattle.cluster_types.specs.declared.journal.Action.TheVariants.{Fence, Probe, Operation, MigrateTo, MigrateFrom}
use Rattle.cluster_types.specs.declared.leaf.Op.{Op}
use Rattle.cluster_types.specs.declared.leaf.Op.TheVariants as op
use Rattle.cluster_types.specs.declared.leaf.Role.{Role}
use Rattle.cluster_types.specs.declared.leaf.Role.TheVariants as role
use Rattle.cluster_types.specs.Precedence.{LeafOnNode, both, cell_of, step_cell, gives_any, gives_role, is_same_op}
use Rattle.cluster_types.specs.Precedes.{IsOperation, GivesRole}

-- both actions have a cell, and the cells pass the test
pub record TwoCells (test : LeafOnNode → LeafOnNode → Bool) (u v : Option LeafOnNode) : Type 0 where
  pub one : LeafOnNode
  pub other : LeafOnNode
  pub is_one : u ≡ cell_of one.leaf one.node
  pub is_other : v ≡ cell_of other.leaf other.node
  pub passes : test one other ≡ true

pub two_cells : (test : LeafOnNode → LeafOnNode → Bool) (u v : Option LeafOnNode) → both test u v ≡ true → TwoCells test u v
two_cells test (Some a) (Some b) h = record { one = a; other = b; is_one = refl; is_other = refl; passes = h }
two_cells test (Some a) None h = cc
two_cells test None (Some b) h = cc
two_cells test None None h = cc

pub cells_pass : (test : LeafOnNode → LeafOnNode → Bool) (u v : Option LeafOnNode) (r n s m : ℕ) → u ≡ cell_of r n → v ≡ cell_of s m
    → test (record { leaf = r; node = n }) (record { leaf = s; node = m }) ≡ true → both test u v ≡ true
cells_pass test u v r n s m e f h = rw e (rw f h)

-- the action gives some role
pub record GivesSome (y : Action) (r n : ℕ) : Type 0 where
  pub given : Role
  pub gives : GivesRole given y r n

pub some_given : (y : Action) (r n : ℕ) → gives_any y ≡ cell_of r n → GivesSome y r n
some_given (Operation op.Promote r n i played) s m h = record { given = role.Promoted; gives = h }
some_given (Operation op.Start r n i played) s m h = record { given = role.Started; gives = h }
some_given (Operation op.Stop r n i played) s m h = cc
some_given (Operation op.Demote r n i played) s m h = cc
some_given (Operation op.Monitor r n i played) s m h = cc
some_given (MigrateTo r f t) s m h = record { given = role.Started; gives = h }
some_given (Fence n) s m h = cc
some_given (Probe r n) s m h = cc
some_given (MigrateFrom r f t) s m h = cc

-- what gives a role gives something
pub role_gives : (held : Role) (a : Action) (at : LeafOnNode) → gives_role held a ≡ Some at → gives_any a ≡ Some at
role_gives role.Started (Operation op.Start r n i h) at e = e
role_gives role.Started (MigrateTo r n m) at e = e
role_gives role.Started (Operation op.Promote r n i h) at e = cc
role_gives role.Started (Operation op.Stop r n i h) at e = e
role_gives role.Started (Operation op.Demote r n i h) at e = e
role_gives role.Started (Operation op.Monitor r n i h) at e = e
role_gives role.Started (Fence n) at e = e
role_gives role.Started (Probe r n) at e = e
role_gives role.Started (MigrateFrom r n m) at e = e
role_gives role.Promoted (Operation op.Promote r n i h) at e = e
role_gives role.Promoted _ at e = cc

-- the four that change a cell
pub record Changes (x : Action) (r n : ℕ) : Type 0 where
  pub what : Op
  pub changes : what ≢ op.Monitor
  pub is : IsOperation what x r n

pub changed_by : (x : Action) (r n : ℕ) → step_cell x ≡ cell_of r n → Changes x r n
changed_by (Fence n) s m h = cc
changed_by (Probe r n) s m h = cc
changed_by (Operation op.Start r n i played) s m h = record { what = op.Start; changes = λ k. cc; is = h }
changed_by (Operation op.Stop r n i played) s m h = record { what = op.Stop; changes = λ k. cc; is = h }
changed_by (Operation op.Promote r n i played) s m h = record { what = op.Promote; changes = λ k. cc; is = h }
changed_by (Operation op.Demote r n i played) s m h = record { what = op.Demote; changes = λ k. cc; is = h }
changed_by (Operation op.Monitor r n i played) s m h = cc
changed_by (MigrateTo r f t) s m h = cc
changed_by (MigrateFrom r f t) s m h = cc

if_some : (b : Bool) (r n s m : ℕ) → (if b then cell_of r n else None) ≡ cell_of s m → cell_of r n ≡ cell_of s m
if_some true r n s m h = h
if_some false r n s m h = cc

pub change_of : (o : Op) (x : Action) (r n : ℕ) → o ≢ op.Monitor → IsOperation o x r n → step_cell x ≡ cell_of r n
change_of o (Fence n) s m k h = h
change_of o (Probe r n) s m k h = h
change_of o (Operation op.Start r n i played) s m k h = if_some (is_same_op o op.Start) r n s m h
change_of o (Operation op.Stop r n i played) s m k h = if_some (is_same_op o op.Stop) r n s m h
change_of o (Operation op.Promote r n i played) s m k h = if_some (is_same_op o op.Promote) r n s m h
change_of o (Operation op.Demote r n i played) s m k h = if_some (is_same_op o op.Demote) r n s m h
change_of op.Start (Operation op.Monitor r n i played) s m k h = h
change_of op.Stop (Operation op.Monitor r n i played) s m k h = h
change_of op.Promote (Operation op.Monitor r n i played) s m k h = h
change_of op.Demote (Operation op.Monitor r n i played) s m k h = h
change_of op.Monitor (Operation op.Monitor r n i played) s m k h = absurd (k refl)
change_of o (MigrateTo r f t) s m k h = h
change_of o (MigrateFrom r f t) s m k h = h
