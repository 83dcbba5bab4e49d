-- The cells of a leaf after some nodes got a target.
use Rattle.std.proofs.Common.{◌≡◌, ◌≢◌, ◌⊎◌, inl, inr, ℕ, ◌+◌, ◌<◌, ◌≤◌, ◌==◌, Bool, true, false, ◌&&◌, nat_lt, if◌then◌else◌, refl, sym, ap, subst, ◌∙◌, arith}
use Rattle.std.proofs.lemmas.Bool.{cases_eq, cases_lt, le-ltb, lt-ltb}
use Rattle.cluster_types.specs.declared.placement.Decision.{Decision}
use Rattle.cluster_types.specs.declared.placement.Decision.TheVariants.{Place, Promote}
use Rattle.cluster_types.specs.declared.placement.Target.{Target}
use Rattle.cluster_types.specs.Choice.{target_by}
use Rattle.cluster_types.specs.Tables.{is_somewhere}

-- a decision gives a target
pub gives : (d : Decision) → is_somewhere (target_by d) ≡ true
gives (Place r) = refl
gives (Promote r) = refl

module _ (k : ℕ) (p : ℕ → Bool) (goal old : Target) where
  -- the target of a cell, when the nodes below one were looked at
  abbrev so_far : Bool → ℕ → ℕ → Target
  so_far leaf bound n = if leaf && nat_lt n bound && p n then goal else old

  none-yet : (leaf : Bool) (n : ℕ) → old ≡ so_far leaf 0 n
  none-yet true n = sym (ap (λ (b : Bool). if b && p n then goal else old) (le-ltb n 0 (omega arith)))
  none-yet false n = refl

  other-leaf : (here : Bool) (n : ℕ) → (if here && (false && n == k) then goal else so_far false k n) ≡ so_far false (k + 1) n
  other-leaf true n = refl
  other-leaf false n = refl

  this-node : (here : Bool) → p k ≡ here → (if here && (k == k) then goal else so_far true k k) ≡ so_far true (k + 1) k
  this-node true e =
      let same : (k == k) ≡ true = grind arith in
      rw (same, lt-ltb k (k + 1) (omega arith), e) refl
  this-node false e = rw (le-ltb k k (omega arith), lt-ltb k (k + 1) (omega arith), e) refl

  apart : (here : Bool) (n : ℕ) → n ≢ k → (if here && (n == k) then goal else so_far true k n) ≡ so_far true k n
  apart true n e = let other : (n == k) ≡ false = grind (arith, e) in rw other refl
  apart false n e = refl

  on : (n : ℕ) → n ≢ k → (n < k) ⊎ (k ≤ n) → nat_lt n k ≡ nat_lt n (k + 1)
  on n e (inl low) = lt-ltb n k low ∙ sym (lt-ltb n (k + 1) (omega (arith, low)))
  on n e (inr high) = le-ltb n k high ∙ sym (le-ltb n (k + 1) (omega (arith, high, e)))

  this-leaf : (here : Bool) → p k ≡ here → (n : ℕ) → (n ≡ k) ⊎ (n ≢ k) → (if here && (n == k) then goal else so_far true k n) ≡ so_far true (k + 1) n
  this-leaf here e n (inl same) = subst (λ (m : ℕ). (if here && (m == k) then goal else so_far true k m) ≡ so_far true (k + 1) m) (sym same) (this-node here e)
  this-leaf here e n (inr other) = apart here n other ∙ ap (λ (b : Bool). if b && p n then goal else old) (on n other (cases_lt n k))

  -- one node more
  pub cells-more : (here : Bool) → p k ≡ here → (leaf : Bool) (n : ℕ)
      → (if here && (leaf && n == k) then goal else (if leaf && nat_lt n k && p n then goal else old)) ≡ (if leaf && nat_lt n (k + 1) && p n then goal else old)
  cells-more here e true n = this-leaf here e n (cases_eq n k)
  cells-more here e false n = other-leaf here n

-- no node yet
pub cells-none : (p : ℕ → Bool) (goal old : Target) (leaf : Bool) (n : ℕ) → old ≡ (if leaf && nat_lt n 0 && p n then goal else old)
cells-none p goal old leaf n = none-yet 0 p goal old leaf n

-- by another test that agrees on the nodes there are
pub cells-alike : (nodes n : ℕ) (p q : Bool) (goal old : Target) (leaf : Bool) → (n < nodes → p ≡ q)
    → (if leaf && nat_lt n nodes && p then goal else old) ≡ (if leaf && nat_lt n nodes && q then goal else old)
cells-alike nodes n p q goal old leaf same = go (cases_lt n nodes)
  where
    ended : (leaf b : Bool) → nat_lt n nodes ≡ false → (if leaf && nat_lt n nodes && b then goal else old) ≡ old
    ended true b e = rw e refl
    ended false b e = refl

    go : (n < nodes) ⊎ (nodes ≤ n) → (if leaf && nat_lt n nodes && p then goal else old) ≡ (if leaf && nat_lt n nodes && q then goal else old)
    go (inl low) = ap (λ (b : Bool). if leaf && nat_lt n nodes && b then goal else old) (same low)
    go (inr high) = let none = le-ltb n nodes high in ended leaf p none ∙ sym (ended leaf q none)
