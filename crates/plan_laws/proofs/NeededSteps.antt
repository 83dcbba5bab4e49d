-- What a start or a promote says of the state and the target of its cell.
use Rattle.std.proofs.Common.{◌≡◌, ℕ, Bool, true, false, refl, Contains}
use Rattle.std.specs.List.{list_any}
use Rattle.lemmas.proofs.Searches.{passes_by}
use Rattle.cluster_types.specs.declared.leaf.Op.{Op}
use Rattle.cluster_types.specs.declared.leaf.Op.TheVariants as op
use Rattle.cluster_types.specs.declared.leaf.Role.{Role}
use Rattle.cluster_types.specs.declared.leaf.Role.TheVariants as role
use Rattle.cluster_types.specs.declared.placement.Target.{Target}
use Rattle.cluster_types.specs.declared.placement.Target.TheVariants as target
use Rattle.cluster_types.specs.declared.states.CellState.{CellState}
use Rattle.cluster_types.specs.declared.states.CellState.TheVariants as cell
use Rattle.cluster_types.specs.Choice.{is_kept_by}
use Rattle.cluster_types.specs.Decisions.{decision_of}
use Rattle.cluster_types.specs.NeededActions.{steps_of}
use Rattle.plan_laws.proofs.StayHeld.{has}

abbrev is_start : Op → Bool
is_start op.Start = true
is_start _ = false

abbrev is_promote : Op → Bool
is_promote op.Promote = true
is_promote _ = false

-- the target has the role, and what is in the cell can't be kept for it
pub record MustBeGiven (r : ℕ) (given : Role) (state : CellState) (t : Target) : Type 0 where
  pub wanted : has given t ≡ true
  pub not_kept : is_kept_by (decision_of r given) state ≡ false

starts : (r : ℕ) (state : CellState) (t : Target) → list_any is_start (steps_of state t false) ≡ true → MustBeGiven r role.Started state t
starts r cell.Unprobed target.Started h = record { wanted = refl; not_kept = refl }
starts r cell.Unprobed target.Promoted h = record { wanted = refl; not_kept = refl }
starts r cell.Off target.Started h = record { wanted = refl; not_kept = refl }
starts r cell.Off target.Promoted h = record { wanted = refl; not_kept = refl }
starts r cell.Failed target.Started h = record { wanted = refl; not_kept = refl }
starts r cell.Failed target.Promoted h = record { wanted = refl; not_kept = refl }
starts r cell.On target.Nowhere h = cc
starts r cell.On target.Started h = cc
starts r cell.On target.Promoted h = cc
starts r cell.Promoted target.Nowhere h = cc
starts r cell.Promoted target.Started h = cc
starts r cell.Promoted target.Promoted h = cc
starts r _ _ h = cc

promotes : (r : ℕ) (state : CellState) (t : Target) → list_any is_promote (steps_of state t false) ≡ true → MustBeGiven r role.Promoted state t
promotes r cell.Unprobed target.Promoted h = record { wanted = refl; not_kept = refl }
promotes r cell.Off target.Promoted h = record { wanted = refl; not_kept = refl }
promotes r cell.On target.Promoted h = record { wanted = refl; not_kept = refl }
promotes r cell.Failed target.Promoted h = record { wanted = refl; not_kept = refl }
promotes r cell.Promoted target.Nowhere h = cc
promotes r cell.Promoted target.Started h = cc
promotes r cell.Promoted target.Promoted h = cc
promotes r _ _ h = cc

-- a step that gives a role to a cell that isn't cycled
-- the role that a step gives
pub data StepGives : Op → Role → Type 0 where
  started : StepGives op.Start role.Started
  promoted : StepGives op.Promote role.Promoted

pub given_anew : (r : ℕ) (state : CellState) (t : Target) (o : Op) (given : Role) → StepGives o given → Contains (steps_of state t false) o → MustBeGiven r given state t
given_anew r state t _ _ started h = starts r state t (passes_by is_start (steps_of state t false) op.Start h refl)
given_anew r state t _ _ promoted h = promotes r state t (passes_by is_promote (steps_of state t false) op.Promote h refl)

starts_cycled : (state : CellState) (t : Target) → list_any is_start (steps_of state t true) ≡ true → has role.Started t ≡ true
starts_cycled state target.Started h = refl
starts_cycled state target.Promoted h = refl
starts_cycled cell.Away target.Nowhere h = cc
starts_cycled cell.Unprobed target.Nowhere h = cc
starts_cycled cell.Blocked target.Nowhere h = cc
starts_cycled cell.Failed target.Nowhere h = cc
starts_cycled cell.Promoted target.Nowhere h = cc
starts_cycled cell.On target.Nowhere h = cc
starts_cycled cell.Off target.Nowhere h = cc

promotes_cycled : (state : CellState) (t : Target) → list_any is_promote (steps_of state t true) ≡ true → has role.Promoted t ≡ true
promotes_cycled state target.Promoted h = refl
promotes_cycled cell.Away target.Nowhere h = cc
promotes_cycled cell.Unprobed target.Nowhere h = cc
promotes_cycled cell.Blocked target.Nowhere h = cc
promotes_cycled cell.Failed target.Nowhere h = cc
promotes_cycled cell.Promoted target.Nowhere h = cc
promotes_cycled cell.On target.Nowhere h = cc
promotes_cycled cell.Off target.Nowhere h = cc
promotes_cycled cell.Away target.Started h = cc
promotes_cycled cell.Unprobed target.Started h = cc
promotes_cycled cell.Blocked target.Started h = cc
promotes_cycled cell.Failed target.Started h = cc
promotes_cycled cell.Promoted target.Started h = cc
promotes_cycled cell.On target.Started h = cc
promotes_cycled cell.Off target.Started h = cc

-- and to one that is
pub given_again : (state : CellState) (t : Target) (o : Op) (given : Role) → StepGives o given → Contains (steps_of state t true) o → has given t ≡ true
given_again state t _ _ started h = starts_cycled state t (passes_by is_start (steps_of state t true) op.Start h refl)
given_again state t _ _ promoted h = promotes_cycled state t (passes_by is_promote (steps_of state t true) op.Promote h refl)
