-- The first number of a range that passes a test.
use Rattle.std.proofs.Common.{arith, ◌≡◌, ◌<◌, ◌≤◌, ◌+◌, ◌||◌, ℕ, suc, zero, Bool, true, false, cond, ◌∷◌, Some, None, filter, slice_get, refl, ◌≢◌, ◌⊎◌, inl, inr}
use Rattle.std.specs.List.{list_any, range_with_len}
use Rattle.std.proofs.lemmas.Bool.{cases_eq}

-- the first that passes is in the range, passes, and is the least of those that pass
pub record IsFirst (p : ℕ → Bool) (a n k : ℕ) : Type 0 where
  pub low : a ≤ k
  pub high : k < a + n
  pub passes : p k ≡ true
  pub least : (j : ℕ) → a ≤ j → j < a + n → p j ≡ true → k ≤ j

is_least : (p : ℕ → Bool) (a n k : ℕ) → IsFirst p (a + 1) n k → p a ≡ false → (j : ℕ) → a ≤ j → j < a + suc n → p j ≡ true → k ≤ j
is_least p a n k f e j low high passes = on (cases_eq a j) where
  on : (a ≡ j) ⊎ (a ≢ j) → k ≤ j
  on (inl i) = let t : p a ≡ true = rw i passes in cc
  on (inr d) = f.least j (omega arith) (omega arith) passes

first_on : (p : ℕ → Bool) (a n k : ℕ) (b : Bool) → p a ≡ b
    → slice_get (cond b (a ∷ filter p (range_with_len (a + 1) n)) (filter p (range_with_len (a + 1) n))) 0 ≡ Some k
    → (slice_get (filter p (range_with_len (a + 1) n)) 0 ≡ Some k → IsFirst p (a + 1) n k) → IsFirst p a (suc n) k
first_on p a n k true e h rest =
    let i : a ≡ k = cc in
    record { low = omega arith; high = omega arith; passes = rw (← i) e; least = λ j low high passes. omega arith }
first_on p a n k false e h rest =
    let f = rest h in
    let l = f.low in
    let m = f.high in
    record { low = omega arith; high = omega arith; passes = f.passes; least = is_least p a n k f e }

pub first_is : (p : ℕ → Bool) (a n k : ℕ) → slice_get (filter p (range_with_len a n)) 0 ≡ Some k → IsFirst p a n k
first_is p a zero k h = cc
first_is p a (suc n) k h = first_on p a n k (p a) refl h (first_is p (a + 1) n k)

-- there is no first where none passes
none_on : (p : ℕ → Bool) (a n : ℕ) (b : Bool) → p a ≡ b
    → slice_get (cond b (a ∷ filter p (range_with_len (a + 1) n)) (filter p (range_with_len (a + 1) n))) 0 ≡ None
    → (slice_get (filter p (range_with_len (a + 1) n)) 0 ≡ None → list_any p (range_with_len (a + 1) n) ≡ false)
    → b || list_any p (range_with_len (a + 1) n) ≡ false
none_on p a n true e h rest = cc
none_on p a n false e h rest = rest h

pub none_passes : (p : ℕ → Bool) (a n : ℕ) → slice_get (filter p (range_with_len a n)) 0 ≡ None → list_any p (range_with_len a n) ≡ false
none_passes p a zero h = refl
none_passes p a (suc n) h = none_on p a n (p a) refl h (none_passes p (a + 1) n)

pub never : (a n : ℕ) → list_any (λ (j : ℕ). false) (range_with_len a n) ≡ false
never a zero = refl
never a (suc n) = never (a + 1) n
