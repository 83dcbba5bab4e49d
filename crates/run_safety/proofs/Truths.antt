-- Truth of tests, beyond what std and the crate of lemmas have.
use Rattle.std.proofs.Common.{◌≡◌, ◌==◌, ◌&&◌, ◌||◌, not, ℕ, Bool, true, false, eqb-true, refl}
use Rattle.std.proofs.lemmas.Bool.{both_ways, and_from}
use Rattle.lemmas.proofs.Booleans.{sooner, later, number_itself}
use Rattle.cluster_types.specs.Cells.{is_same_cell}

-- no test fails and passes
pub refuse : {R : Type 0} (a : Bool) → a ≡ false → a ≡ true → R
refuse a h g = absurd (both_ways a h g)

-- a cell is that of its leaf and node, and of no other
pub own_cell : (r n : ℕ) → is_same_cell r n r n ≡ true
own_cell r n = and_from (r == r) (n == n) (number_itself r) (number_itself n)

pub one_cell : (r n leaf node : ℕ) → is_same_cell r n leaf node ≡ true → (leaf ≡ r) × (node ≡ n)
one_cell r n leaf node h = (eqb-true leaf r (sooner (leaf == r) _ h), eqb-true node n (later (leaf == r) _ h))

-- the other of two tests fails where one passes, and not both
pub other_fails : (a b : Bool) → a ≡ true → a && b ≡ false → b ≡ false
other_fails true b h g = g
other_fails false b h g = cc

-- A latch: what opens it, what it was, and what shuts it.
pub still_shut : (set was clear : Bool) → set ≡ false → was ≡ false → set || was && not clear ≡ false
still_shut true was clear h g = cc
still_shut false true clear h g = cc
still_shut false false clear h g = refl

pub shut : (set was clear : Bool) → set ≡ false → clear ≡ true → set || was && not clear ≡ false
shut true was clear h g = cc
shut false true true h g = refl
shut false true false h g = cc
shut false false clear h g = refl

pub still_open : (set was clear : Bool) → clear ≡ false → was ≡ true → set || was && not clear ≡ true
still_open true was clear h g = refl
still_open false true true h g = cc
still_open false true false h g = refl
still_open false false clear h g = cc
