-- Which actions stand as the earlier and as the later of a pair, by the word of an order.
use Rattle.std.proofs.Common.{◌≡◌, if◌then◌else◌, ℕ, Bool, true, false, Option, Some, None, List, refl, subst, ap}
use Rattle.loops.proofs.StepPlaces.{same_op}
use Rattle.cluster_types.specs.declared.journal.Action.{Action}
use Rattle.cluster_types.specs.declared.journal.Action.TheVariants.{Fence, Probe, Operation, MigrateTo, MigrateFrom}
use Rattle.cluster_types.specs.declared.leaf.Op.{Op}
use Rattle.cluster_types.specs.declared.leaf.Op.TheVariants as op
use Rattle.cluster_types.specs.declared.leaf.Role.{Role}
use Rattle.cluster_types.specs.Precedence.{LeafOnNode, as_earlier, as_later, both, cell_of, is_migrating, is_same_op, op_cell}
use Rattle.plan_laws.proofs.NeededActions.{is_monitor}

-- both actions have a cell, and the cells pass the test
pub record Both (test : LeafOnNode → LeafOnNode → Bool) (u v : Option LeafOnNode) : Type 0 where
  pub one : LeafOnNode
  pub other : LeafOnNode
  pub is_one : u ≡ Some one
  pub is_other : v ≡ Some other
  pub passes : test one other ≡ true

pub both_there : (test : LeafOnNode → LeafOnNode → Bool) (u v : Option LeafOnNode) → both test u v ≡ true → Both test u v
both_there test (Some a) (Some b) h = record { one = a; other = b; is_one = refl; is_other = refl; passes = h }
both_there test (Some a) None h = cc
both_there test None (Some b) h = cc
both_there test None None h = cc

-- the action is the operation on a cell of the leaf
pub data OfCell (o : Op) : Action → ℕ → ℕ → Type 0 where
  of_cell : (r n i : ℕ) (role : Role) → OfCell o (Operation o r n i role) r n

pub leaf_is : (r n : ℕ) (a : LeafOnNode) → cell_of r n ≡ Some a → r ≡ a.leaf
leaf_is r n a h = let e : record { leaf = r; node = n } ≡ a = cc in ap (λ (v : LeafOnNode). v.leaf) e

node_is : (r n : ℕ) (a : LeafOnNode) → cell_of r n ≡ Some a → n ≡ a.node
node_is r n a h = let e : record { leaf = r; node = n } ≡ a = cc in ap (λ (v : LeafOnNode). v.node) e

cell_on : (o p : Op) (r n i : ℕ) (role : Role) (a : LeafOnNode) (b : Bool) → is_same_op o p ≡ b → (if b then cell_of r n else None) ≡ Some a
    → OfCell o (Operation p r n i role) a.leaf a.node
cell_on o p r n i role a true e h =
    let word : o ≡ p = same_op o p e in
    let leaf : r ≡ a.leaf = leaf_is r n a h in
    let node : n ≡ a.node = node_is r n a h in
    subst (λ v. OfCell o (Operation v r n i role) a.leaf a.node) word (subst (λ v. OfCell o (Operation o r n i role) v a.node) leaf
    (subst (λ v. OfCell o (Operation o r n i role) r v) node (of_cell r n i role)))
cell_on o p r n i role a false e h = cc

pub cell_there : (o : Op) (x : Action) (a : LeafOnNode) → op_cell o x ≡ Some a → OfCell o x a.leaf a.node
cell_there o (Fence n) a h = cc
cell_there o (Probe r n) a h = cc
cell_there o (Operation p r n i role) a h = cell_on o p r n i role a (is_same_op o p) refl h
cell_there o (MigrateTo r s t) a h = cc
cell_there o (MigrateFrom r s t) a h = cc

-- as the earlier of a pair by a word
pub data Earlier : Op → Action → ℕ → Type 0 where
  first_start : (r n i : ℕ) (role : Role) → Earlier op.Start (Operation op.Start r n i role) r
  first_taken_in : (r s t : ℕ) → Earlier op.Start (MigrateFrom r s t) r
  first_stop : (r n i : ℕ) (role : Role) → Earlier op.Stop (Operation op.Stop r n i role) r
  first_promote : (r n i : ℕ) (role : Role) → Earlier op.Promote (Operation op.Promote r n i role) r
  first_demote : (r n i : ℕ) (role : Role) → Earlier op.Demote (Operation op.Demote r n i role) r

earlier_by_cell : (p : Op) (x : Action) (r n : ℕ) → is_monitor p ≡ false → OfCell p x r n → Earlier p x r
earlier_by_cell op.Start _ _ _ e (of_cell r n i role) = first_start r n i role
earlier_by_cell op.Stop _ _ _ e (of_cell r n i role) = first_stop r n i role
earlier_by_cell op.Promote _ _ _ e (of_cell r n i role) = first_promote r n i role
earlier_by_cell op.Demote _ _ _ e (of_cell r n i role) = first_demote r n i role
earlier_by_cell op.Monitor _ _ _ e (of_cell r n i role) = cc

pub earlier : (p : Op) (x : Action) (a : LeafOnNode) → is_monitor p ≡ false → as_earlier p x ≡ Some a → Earlier p x a.leaf
earlier op.Start (MigrateFrom r s t) a e h = subst (Earlier op.Start (MigrateFrom r s t)) (leaf_is r t a h) (first_taken_in r s t)
earlier op.Start (Fence n) a e h = cc
earlier op.Start (Probe r n) a e h = cc
earlier op.Start (Operation o r n i role) a e h = earlier_by_cell op.Start _ _ _ e (cell_there op.Start (Operation o r n i role) a h)
earlier op.Start (MigrateTo r s t) a e h = cc
earlier op.Stop x a e h = earlier_by_cell op.Stop _ _ _ e (cell_there op.Stop x a h)
earlier op.Promote x a e h = earlier_by_cell op.Promote _ _ _ e (cell_there op.Promote x a h)
earlier op.Demote x a e h = earlier_by_cell op.Demote _ _ _ e (cell_there op.Demote x a h)
earlier op.Monitor x a e h = cc

-- as the later
pub data Later (actions : List Action) : Op → Action → ℕ → Type 0 where
  then_start : (r n i : ℕ) (role : Role) → Later actions op.Start (Operation op.Start r n i role) r
  then_sent_to : (r s t : ℕ) → Later actions op.Start (MigrateTo r s t) r
  then_sent_off : (r s t : ℕ) → Later actions op.Stop (MigrateTo r s t) r
  then_stop : (r n i : ℕ) (role : Role) → is_migrating actions r ≡ false → Later actions op.Stop (Operation op.Stop r n i role) r
  then_promote : (r n i : ℕ) (role : Role) → Later actions op.Promote (Operation op.Promote r n i role) r
  then_demote : (r n i : ℕ) (role : Role) → Later actions op.Demote (Operation op.Demote r n i role) r

module _ (actions : List Action) where
  start_by_cell : (x : Action) (r n : ℕ) → OfCell op.Start x r n → Later actions op.Start x r
  start_by_cell _ _ _ (of_cell r n i role) = then_start r n i role

  promote_by_cell : (x : Action) (r n : ℕ) → OfCell op.Promote x r n → Later actions op.Promote x r
  promote_by_cell _ _ _ (of_cell r n i role) = then_promote r n i role

  demote_by_cell : (x : Action) (r n : ℕ) → OfCell op.Demote x r n → Later actions op.Demote x r
  demote_by_cell _ _ _ (of_cell r n i role) = then_demote r n i role

  stop_on : (r n i : ℕ) (role : Role) (a : LeafOnNode) (b : Bool) → is_migrating actions r ≡ b → (if b then None else cell_of r n) ≡ Some a
      → Later actions op.Stop (Operation op.Stop r n i role) a.leaf
  stop_on r n i role a true e h = cc
  stop_on r n i role a false e h = subst (Later actions op.Stop (Operation op.Stop r n i role)) (leaf_is r n a h) (then_stop r n i role e)

  pub later : (q : Op) (y : Action) (b : LeafOnNode) → is_monitor q ≡ false → as_later actions q y ≡ Some b → Later actions q y b.leaf
  later op.Start (Fence n) b e h = cc
  later op.Start (Probe r n) b e h = cc
  later op.Start (Operation o r n i role) b e h = start_by_cell _ _ _ (cell_there op.Start (Operation o r n i role) b h)
  later op.Start (MigrateTo r s t) b e h = subst (Later actions op.Start (MigrateTo r s t)) (leaf_is r t b h) (then_sent_to r s t)
  later op.Start (MigrateFrom r s t) b e h = cc
  later op.Stop (Fence n) b e h = cc
  later op.Stop (Probe r n) b e h = cc
  later op.Stop (Operation op.Start r n i role) b e h = cc
  later op.Stop (Operation op.Stop r n i role) b e h = stop_on r n i role b (is_migrating actions r) refl h
  later op.Stop (Operation op.Promote r n i role) b e h = cc
  later op.Stop (Operation op.Demote r n i role) b e h = cc
  later op.Stop (Operation op.Monitor r n i role) b e h = cc
  later op.Stop (MigrateTo r s t) b e h = subst (Later actions op.Stop (MigrateTo r s t)) (leaf_is r s b h) (then_sent_off r s t)
  later op.Stop (MigrateFrom r s t) b e h = cc
  later op.Promote y b e h = promote_by_cell _ _ _ (cell_there op.Promote y b h)
  later op.Demote y b e h = demote_by_cell _ _ _ (cell_there op.Demote y b h)
  later op.Monitor y b e h = cc
