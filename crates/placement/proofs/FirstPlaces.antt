-- The first number that passes a test is the first of those that pass it.
use Rattle.std.proofs.Common.{arith, ◌≡◌, ℕ, suc, zero, ◌+◌, ◌-◌, ◌<◌, ◌≤◌, Bool, true, false, Option, Some, None, MatchOption, List, length, filter, slice_get, slice_index_or, sym, ap, subst, ◌∙◌, refl, inl, inr}
use Rattle.std.specs.List.{range_with_len}
use Rattle.std.proofs.lemmas.Bool.{cases_eq}
use Rattle.listed.specs.Sets.{is_member, members}
use Rattle.placement.specs.Inner.Queueing.{IsFirstPlace}

module _ (f : ℕ → Bool) where
  record First (a n k : ℕ) : Type 0 where
    pub from : a ≤ k
    pub to : k < a + n
    pub passes : f k ≡ true
    pub none : (j : ℕ) → a ≤ j → j < k → f j ≡ false

  abbrev IsFirst : ℕ → ℕ → Option ℕ → Type 0
  IsFirst a n r = MatchOption r ((j : ℕ) → a ≤ j → j < a + n → f j ≡ false) (First a n)

  fails : (a j k : ℕ) → f a ≡ false → ((i : ℕ) → a + 1 ≤ i → i < k → f i ≡ false) → a ≤ j → j < k → f j ≡ false
  fails a j k out rest le lt = elim (cases_eq j a) [
    | inl e ↦ ap f e ∙ out
    | inr other ↦ rest j (omega arith) lt
  ]

  one-sooner : (a n : ℕ) → f a ≡ false → (r : Option ℕ) → IsFirst (a + 1) n r → IsFirst a (suc n) r
  one-sooner a n out None none = λ j le lt. fails a j (a + suc n) out (λ i low high. none i low (omega arith)) le lt
  one-sooner a n out (Some k) one =
      let from = one.from in
      let to = one.to in
      record {
        from = omega arith;
        to = omega arith;
        passes = one.passes;
        none = λ j le lt. fails a j k out (λ i low high. one.none i low high) le lt;
      }

  first-of : (a n : ℕ) (r : Option ℕ) → r ≡ slice_get (filter f (range_with_len a n)) 0 → IsFirst a n r
  first-of a zero r is = subst (IsFirst a 0) (sym is) (λ j le lt. absurd (let g : ⊥ = omega arith in g))
  first-of a (suc n) r is = on (f a) refl (first-of (a + 1) n r)
    where
      on : (b : Bool) → f a ≡ b → (r ≡ slice_get (filter f (range_with_len (a + 1) n)) 0 → IsFirst (a + 1) n r) → IsFirst a (suc n) r
      on true e rest =
          let here : r ≡ Some a = is ∙ rw e refl in
          subst (IsFirst a (suc n)) (sym here) (record {
            from = omega arith;
            to = omega arith;
            passes = e;
            none = λ j le lt. absurd (let g : ⊥ = omega arith in g);
          })
      on false e rest =
          let later : r ≡ slice_get (filter f (range_with_len (a + 1) n)) 0 = is ∙ rw e refl in
          one-sooner a n e r (rest later)

module _ (flags : List Bool) where
  pub no-place : None ≡ slice_get (members flags) 0 → (p : ℕ) → p < length flags → slice_index_or flags p false ≡ false
  no-place is p lt =
      let none = first-of (is_member flags) 1 (length flags) None is (p + 1) (omega arith) (omega arith) in
      let at : p + 1 - 1 ≡ p = omega arith in
      subst (λ q. slice_index_or flags q false ≡ false) at none

  pub from-one : (number : ℕ) → Some number ≡ slice_get (members flags) 0 → 1 ≤ number
  from-one number is = let one = first-of (is_member flags) 1 (length flags) (Some number) is in one.from

  pub a-place : (number : ℕ) → Some number ≡ slice_get (members flags) 0 → IsFirstPlace flags (number - 1)
  a-place number is =
      let one = first-of (is_member flags) 1 (length flags) (Some number) is in
      let from = one.from in
      let to = one.to in
      record {
        within = omega arith;
        is = one.passes;
        first = λ q lt.
            let none = one.none (q + 1) (omega arith) (omega arith) in
            let at : q + 1 - 1 ≡ q = omega arith in
            subst (λ j. slice_index_or flags j false ≡ false) at none;
      }
