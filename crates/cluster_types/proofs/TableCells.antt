-- Where a table keeps a cell, and what of a cell is told elsewhere in other words.
use Rattle.std.proofs.Common.{arith, ◌≡◌, ◌<◌, ◌≤◌, ℕ, suc, ◌+◌, ◌*◌, ◌==◌, nat_lt, ◌&&◌, Bool, true, false, if◌then◌else◌, List, refl, length, get_or, set}
use Rattle.std.proofs.Math.Nat.{mul-le-mul_right}
use Rattle.std.proofs.lemmas.List.{get_or-set_same, get_or-set_other}
use Rattle.std.proofs.lemmas.Option.{unwrap_or-slice_get}
use Rattle.std.proofs.Math.Bool.{and-false}
use Rattle.std.specs.Prelude.{slice_get, slice_set, unwrap_or}
use Rattle.lemmas.proofs.Booleans.{equal_turned}
use Rattle.cluster_types.specs.declared.placement.Table.{Table}
use Rattle.cluster_types.specs.declared.placement.Target.{Target}
use Rattle.cluster_types.specs.declared.placement.Target.TheVariants as target
use Rattle.cluster_types.specs.Cells.{is_same_cell}
use Rattle.cluster_types.specs.Tables.{is_promoted_target, is_somewhere, targets_of}

-- the cells of a leaf stand before those of each later one
pub ordered : (nodes r n s m : ℕ) → n < nodes → r < s → r * nodes + n < s * nodes + m
ordered nodes r n s m within less =
    let up : suc r * nodes ≤ s * nodes = mul-le-mul_right nodes less in
    let one : suc r * nodes ≡ r * nodes + nodes = omega arith in
    omega arith

-- the place of a cell is one of the list of all cells
pub cell_within : (leaves nodes r n : ℕ) → r < leaves → n < nodes → r * nodes + n < leaves * nodes
cell_within leaves nodes r n low within =
    let up : suc r * nodes ≤ leaves * nodes = mul-le-mul_right nodes low in
    let one : suc r * nodes ≡ r * nodes + nodes = omega arith in
    omega (arith, up, one, within)

-- a cell is another where leaf and node are the other's
pub same_cell : (r n leaf node : ℕ) → (r == leaf && n == node) ≡ is_same_cell r n leaf node
same_cell r n leaf node = rw (equal_turned r leaf, equal_turned n node) refl

-- where a leaf is promoted, it is somewhere
pub promoted_somewhere : (t : Target) → is_promoted_target t ≡ true → is_somewhere t ≡ true
promoted_somewhere target.Nowhere h = cc
promoted_somewhere target.Started h = cc
promoted_somewhere target.Promoted h = refl

-- cells of different leaves have different places
other_leaf : (nodes r n s m : ℕ) → n < nodes → m < nodes → (r == s) ≡ false → (less : Bool) → nat_lt r s ≡ less
    → (r * nodes + n == s * nodes + m) ≡ false
other_leaf nodes r n s m within also h true l = let up = ordered nodes r n s m within (grind arith) in grind arith
other_leaf nodes r n s m within also h false l = let up = ordered nodes s m r n also (grind arith) in grind arith

-- cells of one leaf have one place where their nodes are one
one_leaf : (first n m : ℕ) → (node : Bool) → (n == m) ≡ node → (first + n == first + m) ≡ (n == m)
one_leaf first n m true h = rw h (grind arith)
one_leaf first n m false h = rw h (grind arith)

-- two cells have one place where they are one cell
pub same_place : (nodes r n s m : ℕ) → n < nodes → m < nodes → (leaf : Bool) → (r == s) ≡ leaf
    → (r * nodes + n == s * nodes + m) ≡ (r == s && n == m)
same_place nodes r n s m within also true h = let e : r ≡ s = grind arith in let t : (s == s) ≡ true = grind arith in rw e (rw t (one_leaf (s * nodes) n m (n == m) refl))
same_place nodes r n s m within also false h = rw h (other_leaf nodes r n s m within also h (nat_lt r s) refl)

pub get-at : {X : Type 0} (xs : List X) (place at : ℕ) (x d : X) → at < length xs → (same : Bool) → (place == at) ≡ same
    → get_or (set xs at x) place d ≡ (if same then x else get_or xs place d)
get-at xs place at x d within true h = let e : place ≡ at = grind arith in rw e (get_or-set_same xs at x d within)
get-at xs place at x d within false h = get_or-set_other xs at place x d (grind arith)

-- the element at a place, after one was set
pub get-set : {X : Type 0} (xs : List X) (place at : ℕ) (x d : X) → at < length xs
    → unwrap_or (slice_get (slice_set xs at x) place) d ≡ (if place == at then x else unwrap_or (slice_get xs place) d)
get-set xs place at x d within = rw (unwrap_or-slice_get (slice_set xs at x) place d) (rw (unwrap_or-slice_get xs place d) (get-at xs place at x d within (place == at) refl))

-- a node that the table doesn't have is not that of a cell
elsewhere : (nodes n node : ℕ) → node < nodes → nat_lt n nodes ≡ false → (n == node) ≡ false
elsewhere nodes n node on h = grind arith

on_its_nodes : (table : Table) (r n leaf node : ℕ) (x : Target) → node < table.nodes → leaf * table.nodes + node < length table.targets
    → (on : Bool) → nat_lt n table.nodes ≡ on
    → targets_of (record { nodes = table.nodes; targets = slice_set table.targets (leaf * table.nodes + node) x }) r n
    ≡ (if r == leaf && n == node then x else targets_of table r n)
on_its_nodes table r n leaf node x on_node within true h =
    rw h (rw (← same_place table.nodes r n leaf node (grind arith) on_node (r == leaf) refl)
    (get-set table.targets (r * table.nodes + n) (leaf * table.nodes + node) x target.Nowhere within))
on_its_nodes table r n leaf node x on_node within false h = rw h (rw (elsewhere table.nodes n node on_node h) (rw (and-false (r == leaf)) refl))

-- the targets after one was set
pub after_setting : (table : Table) (r n leaf node : ℕ) (x : Target) → node < table.nodes → leaf * table.nodes + node < length table.targets
    → targets_of (record { nodes = table.nodes; targets = slice_set table.targets (leaf * table.nodes + node) x }) r n
    ≡ (if r == leaf && n == node then x else targets_of table r n)
after_setting table r n leaf node x on_node within = on_its_nodes table r n leaf node x on_node within (nat_lt n table.nodes) refl
