-- Each case of what must precede that hangs on no rule is a join.
use Rattle.std.proofs.Common.{◌≡◌, ◌==◌, ◌&&◌, ◌||◌, nat_lt, if◌then◌else◌, ℕ, Bool, true, false, Option, Some, None, length, refl, sym, ap, subst, ◌∙◌}
use Rattle.std.proofs.lemmas.Bool.{eqb-true}
use Rattle.std.proofs.Math.Bool.{or-false, and-true, or-true}
use Rattle.lemmas.proofs.Booleans.{equal_turned}
use Rattle.cluster_types.specs.declared.cluster.Cluster.{Cluster}
use Rattle.cluster_types.specs.declared.journal.Action.{Action}
use Rattle.cluster_types.specs.declared.journal.Action.TheVariants.{Fence, Probe, Operation, MigrateTo, MigrateFrom}
use Rattle.cluster_types.specs.declared.leaf.Op.TheVariants as op
use Rattle.cluster_types.specs.Fields.{copies}
use Rattle.cluster_types.specs.Precedence.{LeafOnNode, both, cell_of, comes_first_in_cell, fences_first, gives_any, is_one_cell, is_one_leaf, is_some_cell, migrates_first, op_cell}
use Rattle.planner.specs.Joins.{alone, before_monitor, before_stop, by_leaf, fence_cell, send_cell, take_cell, take_in_cell, same_join_cell}

pub one_leaf_joined : (u v : Option LeafOnNode) → both is_one_leaf u v ≡ both is_one_cell (by_leaf u) (by_leaf v)
one_leaf_joined (Some a) (Some b) = sym (and-true (a.leaf == b.leaf))
one_leaf_joined (Some a) None = refl
one_leaf_joined None v = refl

-- of one leaf the node counts or doesn't
alone_on : (c : Cluster) (r s n m : ℕ) (same few : Bool) → (r == s) ≡ same → nat_lt (copies c r) (length c.nodes) ≡ few
    → (same && (n == m || nat_lt (copies c r) (length c.nodes)))
    ≡ (same && ((if nat_lt (copies c r) (length c.nodes) then 0 else n) == (if nat_lt (copies c s) (length c.nodes) then 0 else m)))
alone_on c r s n m false few e f = refl
alone_on c r s n m true true e f =
    let leaf : r ≡ s = eqb-true r s e in
    let g : nat_lt (copies c s) (length c.nodes) ≡ true = subst (λ v. nat_lt (copies c v) (length c.nodes) ≡ true) leaf f in
    rw f (rw g (or-true (n == m)))
alone_on c r s n m true false e f =
    let leaf : r ≡ s = eqb-true r s e in
    let g : nat_lt (copies c s) (length c.nodes) ≡ false = subst (λ v. nat_lt (copies c v) (length c.nodes) ≡ false) leaf f in
    rw f (rw g (or-false (n == m)))

pub alone_joined : (c : Cluster) (u v : Option LeafOnNode)
    → both (λ a b. is_one_leaf a b && (a.node == b.node || nat_lt (copies c a.leaf) (length c.nodes))) u v ≡ both is_one_cell (alone c u) (alone c v)
alone_joined c (Some a) (Some b) = alone_on c a.leaf b.leaf a.node b.node (a.leaf == b.leaf) (nat_lt (copies c a.leaf) (length c.nodes)) refl refl
alone_joined c (Some a) None = refl
alone_joined c None v = refl

pub fences_joined : (x y : Action) → fences_first x y ≡ both is_one_cell (fence_cell x) (same_join_cell (gives_any y))
fences_joined (Fence n) y = on (gives_any y)
  where
    on : (v : Option LeafOnNode) → is_some_cell v ≡ both is_one_cell (cell_of 0 0) (same_join_cell v)
    on (Some a) = refl
    on None = refl
fences_joined (Probe r n) y = refl
fences_joined (Operation o r n i role) y = refl
fences_joined (MigrateTo r s t) y = refl
fences_joined (MigrateFrom r s t) y = refl

-- two sources of one side
pub taken_joined : (x : Action) (v : Option LeafOnNode) → (both is_one_leaf (op_cell op.Demote x) v || both is_one_leaf (op_cell op.Stop x) v) ≡ both is_one_leaf (take_cell x) v
taken_joined (Fence n) v = refl
taken_joined (Probe r n) v = refl
taken_joined (Operation op.Start r n i role) v = refl
taken_joined (Operation op.Stop r n i role) v = refl
taken_joined (Operation op.Promote r n i role) v = refl
taken_joined (Operation op.Demote r n i role) v = or-false (both is_one_leaf (cell_of r n) v)
taken_joined (Operation op.Monitor r n i role) v = refl
taken_joined (MigrateTo r s t) v = refl
taken_joined (MigrateFrom r s t) v = refl

-- what comes before a stop in its cell, before a promote and before a monitor, and what is sent before what is taken in
both_last : (a b : Bool) → ((a || b) || false) ≡ (a || (b || false))
both_last true b = refl
both_last false b = refl

first_and_last : (a b : Bool) → (((a || false) || b) || false) ≡ (a || (b || false))
first_and_last true b = refl
first_and_last false b = refl

pub in_cell_joined : (x y : Action) → (comes_first_in_cell x y || migrates_first x y)
    ≡ (both is_one_cell (before_stop x) (op_cell op.Stop y) || (both is_one_cell (op_cell op.Start x) (op_cell op.Promote y)
    || (both is_one_cell (before_monitor x) (op_cell op.Monitor y) || both is_one_cell (send_cell x) (take_in_cell y))))
in_cell_joined (Fence n) y = refl
in_cell_joined (Probe r n) y = refl
in_cell_joined (Operation op.Start r n i role) y = both_last (both is_one_cell (cell_of r n) (op_cell op.Promote y)) (both is_one_cell (cell_of r n) (op_cell op.Monitor y))
in_cell_joined (Operation op.Stop r n i role) y = refl
in_cell_joined (Operation op.Promote r n i role) y = refl
in_cell_joined (Operation op.Demote r n i role) y = first_and_last (both is_one_cell (cell_of r n) (op_cell op.Stop y)) (both is_one_cell (cell_of r n) (op_cell op.Monitor y))
in_cell_joined (Operation op.Monitor r n i role) y = refl
in_cell_joined (MigrateTo r s t) (Fence n) = refl
in_cell_joined (MigrateTo r s t) (Probe q n) = refl
in_cell_joined (MigrateTo r s t) (Operation o q n i role) = refl
in_cell_joined (MigrateTo r s t) (MigrateTo q f g) = refl
in_cell_joined (MigrateTo r s t) (MigrateFrom q f g) = sym (and-true (r == q))
in_cell_joined (MigrateFrom r s t) (Fence n) = refl
in_cell_joined (MigrateFrom r s t) (Probe q n) = refl
in_cell_joined (MigrateFrom r s t) (Operation op.Start q n i role) = refl
in_cell_joined (MigrateFrom r s t) (Operation op.Stop q n i role) = ap (λ v. (r == q) && v) (equal_turned n s) ∙ sym (or-false ((r == q) && (s == n)))
in_cell_joined (MigrateFrom r s t) (Operation op.Promote q n i role) = refl
in_cell_joined (MigrateFrom r s t) (Operation op.Demote q n i role) = refl
in_cell_joined (MigrateFrom r s t) (Operation op.Monitor q n i role) = ap (λ v. (r == q) && v) (equal_turned n t) ∙ sym (or-false ((r == q) && (t == n)))
in_cell_joined (MigrateFrom r s t) (MigrateTo q f g) = refl
in_cell_joined (MigrateFrom r s t) (MigrateFrom q f g) = refl
