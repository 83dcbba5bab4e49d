-- Truth of tests, beyond what std has of it (`and_parts`, `or_parts`, `and_from`, `or_left`, `or_right`, `or-true`, `or-false`, `and-false`,
-- `not-true`, `not-false`, `or_cases`, `false_from_ne_true`, `lt-ltb`).
use Rattle.std.proofs.Common.{◌≡◌, Bool, true, false, not, cond, ◌&&◌, ◌||◌, ℕ, ◌==◌, refl, arith}

-- of two tests that pass the first does, and the second does
pub sooner : (a b : Bool) → a && b ≡ true → a ≡ true
sooner true b h = refl
sooner false b h = cc

pub later : (a b : Bool) → a && b ≡ true → b ≡ true
later true b h = h
later false b h = cc

-- the first fails where its denial passes
pub denied_first : (a b : Bool) → not a && b ≡ true → a ≡ false
denied_first true b h = cc
denied_first false b h = refl

-- what follows from either of two tests follows where one of them passes
pub either : (a b : Bool) {P : Type 0} → (a || b) ≡ true → (a ≡ true → P) → (b ≡ true → P) → P
either true b h f g = f refl
either false b h f g = g h

-- of three that pass the first does
pub first_of_three : (a b c : Bool) → a && b && c ≡ true → a ≡ true
first_of_three true b c h = refl
first_of_three false b c h = h

-- of two tests of which one passes the first does where the second fails
pub first_passes : (a b : Bool) → a || b ≡ true → b ≡ false → a ≡ true
first_passes true b h e = refl
first_passes false b h e = cc

-- one test follows from another, and back
pub implied : (a b : Bool) → not a || b ≡ true → a ≡ true → b ≡ true
implied true b h e = h
implied false b h e = cc

pub if_then : (a b : Bool) → (a ≡ true → b ≡ true) → not a || b ≡ true
if_then true b f = f refl
if_then false b f = refl

-- where one test passes, and not without another, the other does
pub unless : (a b : Bool) → a ≡ true → a && not b ≡ false → b ≡ true
unless true true e h = refl
unless true false e h = cc
unless false b e h = cc

-- what another test follows from fails where that fails
pub fails_too : (a b : Bool) → (a ≡ true → b ≡ true) → b ≡ false → a ≡ false
fails_too true b f h = let e = f refl in cc
fails_too false b f h = refl

-- true where one test passes, and else another test, is either of the two
pub cond-or : (a b : Bool) → cond a true b ≡ (b || a)
cond-or true true = refl
cond-or true false = refl
cond-or false true = refl
cond-or false false = refl

pub contrary : (a b : Bool) → (a ≡ true → b ≡ true) → not b ≡ true → not a ≡ true
contrary true true f h = cc
contrary true false f h = let e : false ≡ true = f refl in cc
contrary false b f h = refl

pub same_test : (a b : Bool) → (a ≡ true → b ≡ true) → (b ≡ true → a ≡ true) → a ≡ b
same_test true true f g = refl
same_test true false f g = let e : false ≡ true = f refl in cc
same_test false true f g = let e : false ≡ true = g refl in cc
same_test false false f g = refl

-- a whole test follows where each part of it follows
pub both : (a b c d : Bool) → (a ≡ true → b ≡ true) → (c ≡ true → d ≡ true) → a && c ≡ true → b && d ≡ true
both true true c d f g h = g h
both true false c d f g h = let e : false ≡ true = f refl in cc
both false b c d f g h = cc

pub one_of : (a b c d : Bool) → (a ≡ true → b ≡ true) → (c ≡ true → d ≡ true) → a || c ≡ true → b || d ≡ true
one_of a true c d f g h = refl
one_of true false c d f g h = let e : false ≡ true = f refl in cc
one_of false false c d f g h = g h

-- numbers are compared the same from both sides, and a number is itself
pub equal_turned : (a b : ℕ) → (a == b) ≡ (b == a)
equal_turned a b = grind arith

pub number_itself : (n : ℕ) → (n == n) ≡ true
number_itself n = grind arith
