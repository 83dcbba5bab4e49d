-- Which actions give a role, and which take one away or ask for it.
use Rattle.std.proofs.Common.{◌≡◌, ℕ, Some, subst}
use Rattle.cluster_types.specs.declared.journal.Action.{Action}
use Rattle.cluster_types.specs.declared.journal.Action.TheVariants.{Fence, Probe, Operation, MigrateTo, MigrateFrom}
use Rattle.cluster_types.specs.declared.leaf.Op.TheVariants as op
use Rattle.cluster_types.specs.declared.leaf.Role.{Role}
use Rattle.cluster_types.specs.declared.leaf.Role.TheVariants as role
use Rattle.cluster_types.specs.Precedence.{LeafOnNode, gives_any, gives_role, start_cell, takes_or_probes}
use Rattle.plan_laws.proofs.Words.{OfCell, of_cell, cell_there, leaf_is}

-- what gives a role
pub data GivesTo : Action → ℕ → Type 0 where
  gives_start : (r n i : ℕ) (role : Role) → GivesTo (Operation op.Start r n i role) r
  gives_sent : (r s t : ℕ) → GivesTo (MigrateTo r s t) r
  gives_promote : (r n i : ℕ) (role : Role) → GivesTo (Operation op.Promote r n i role) r

gives_by_start : (x : Action) (r n : ℕ) → OfCell op.Start x r n → GivesTo x r
gives_by_start _ _ _ (of_cell r n i role) = gives_start r n i role

gives_by_promote : (x : Action) (r n : ℕ) → OfCell op.Promote x r n → GivesTo x r
gives_by_promote _ _ _ (of_cell r n i role) = gives_promote r n i role

pub given_start : (y : Action) (a : LeafOnNode) → start_cell y ≡ Some a → GivesTo y a.leaf
given_start (Fence n) a h = cc
given_start (Probe r n) a h = cc
given_start (Operation o r n i role) a h = gives_by_start _ _ _ (cell_there op.Start (Operation o r n i role) a h)
given_start (MigrateTo r s t) a h = subst (GivesTo (MigrateTo r s t)) (leaf_is r t a h) (gives_sent r s t)
given_start (MigrateFrom r s t) a h = cc

pub given : (role : Role) (y : Action) (a : LeafOnNode) → gives_role role y ≡ Some a → GivesTo y a.leaf
given role.Started y a h = given_start y a h
given role.Promoted y a h = gives_by_promote _ _ _ (cell_there op.Promote y a h)

pub given_any : (y : Action) (a : LeafOnNode) → gives_any y ≡ Some a → GivesTo y a.leaf
given_any (Fence n) a h = cc
given_any (Probe r n) a h = cc
given_any (Operation op.Start r n i role) a h = given_start (Operation op.Start r n i role) a h
given_any (Operation op.Stop r n i role) a h = cc
given_any (Operation op.Promote r n i role) a h = subst (GivesTo (Operation op.Promote r n i role)) (leaf_is r n a h) (gives_promote r n i role)
given_any (Operation op.Demote r n i role) a h = cc
given_any (Operation op.Monitor r n i role) a h = cc
given_any (MigrateTo r s t) a h = given_start (MigrateTo r s t) a h
given_any (MigrateFrom r s t) a h = cc

-- what takes a role away, or asks for it
pub data TakesFrom : Action → ℕ → Type 0 where
  asks : (r n : ℕ) → TakesFrom (Probe r n) r
  takes_stop : (r n i : ℕ) (role : Role) → TakesFrom (Operation op.Stop r n i role) r
  takes_demote : (r n i : ℕ) (role : Role) → TakesFrom (Operation op.Demote r n i role) r

takes_by_stop : (x : Action) (r n : ℕ) → OfCell op.Stop x r n → TakesFrom x r
takes_by_stop _ _ _ (of_cell r n i role) = takes_stop r n i role

pub taken : (role : Role) (x : Action) (a : LeafOnNode) → takes_or_probes role x ≡ Some a → TakesFrom x a.leaf
taken role.Started (Probe r n) a h = subst (TakesFrom (Probe r n)) (leaf_is r n a h) (asks r n)
taken role.Started (Fence n) a h = cc
taken role.Started (Operation o r n i role) a h = takes_by_stop _ _ _ (cell_there op.Stop (Operation o r n i role) a h)
taken role.Started (MigrateTo r s t) a h = cc
taken role.Started (MigrateFrom r s t) a h = cc
taken role.Promoted (Probe r n) a h = subst (TakesFrom (Probe r n)) (leaf_is r n a h) (asks r n)
taken role.Promoted (Fence n) a h = cc
taken role.Promoted (Operation op.Start r n i role) a h = cc
taken role.Promoted (Operation op.Stop r n i role) a h = takes_by_stop _ _ _ (cell_there op.Stop (Operation op.Stop r n i role) a h)
taken role.Promoted (Operation op.Promote r n i role) a h = cc
taken role.Promoted (Operation op.Demote r n i role) a h = subst (TakesFrom (Operation op.Demote r n i role)) (leaf_is r n a h) (takes_demote r n i role)
taken role.Promoted (Operation op.Monitor r n i role) a h = cc
taken role.Promoted (MigrateTo r s t) a h = cc
taken role.Promoted (MigrateFrom r s t) a h = cc
