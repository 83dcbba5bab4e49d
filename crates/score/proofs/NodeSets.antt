-- A set of nodes with one more node.
use Rattle.std.proofs.Common.{◌≡◌, ◌≢◌, ◌⊎◌, inl, inr, ℕ, ◌<◌, ◌≤◌, ◌==◌, Bool, true, false, ◌&&◌, ◌||◌, sym, ap, ◌∙◌, arith}
use Rattle.std.proofs.Math.Bool.{and-false, and-true, or-false}
use Rattle.std.proofs.lemmas.Bool.{cases_lt, false_from_ne_true}

module _ (wanted : Bool) (old new : ℕ → Bool) (node : ℕ) (is : (n : ℕ) → new n ≡ (wanted && n == node || old n)) where
  -- each other node is in it as before
  pub stays : (n : ℕ) → n ≢ node → new n ≡ old n
  stays n e = is n ∙ (ap (λ b. wanted && b || old n) (let x : (n == node) ≡ false = grind (arith, e) in x) ∙ ap (λ b. b || old n) (and-false wanted))

  -- and this one if it is wanted, where it wasn't yet
  pub joins : old node ≡ false → new node ≡ wanted
  joins out =
      is node ∙ (ap (λ b. wanted && b || old node) (let x : (node == node) ≡ true = grind arith in x)
      ∙ (ap (λ b. wanted && true || b) out ∙ (or-false (wanted && true) ∙ and-true wanted)))

-- of nodes below a bound none other is in the set
pub outside : (old : ℕ → Bool) (bound : ℕ) → ((n : ℕ) → old n ≡ true → n < bound) → (n : ℕ) → bound ≤ n → old n ≡ false
outside old bound there n high = false_from_ne_true (old n) (λ e. let low = there n e in absurd (let f : ⊥ = omega (arith, low, high) in f))

-- a set of nodes below a bound by what passes there
pub as_test : (set p : ℕ → Bool) (bound : ℕ) → ((n : ℕ) → n < bound → set n ≡ p n) → ((n : ℕ) → set n ≡ true → n < bound) → ((n : ℕ) → bound ≤ n → p n ≡ false)
    → (n : ℕ) → set n ≡ p n
as_test set p bound same there none n = go (cases_lt n bound)
  where
    go : (n < bound) ⊎ (bound ≤ n) → set n ≡ p n
    go (inl low) = same n low
    go (inr high) = outside set bound there n high ∙ sym (none n high)
