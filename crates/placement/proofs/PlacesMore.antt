-- The places of positions, with one place more.
use Rattle.std.proofs.Common.{arith, ◌≡◌, ℕ, ◌+◌, ◌<◌, ◌==◌, true, false, Some, None, Option, List, length, slice_index_or, slice_set, Contains, refl, sym, ap, subst, ◌∙◌, inl, inr, ◌≤◌, replicate}
use Rattle.std.specs.Option.{option_map_or}
use Rattle.std.proofs.lemmas.Bool.{cases_eq, cases_lt, eq-eqb}
use Rattle.std.proofs.lemmas.List.{get_or-replicate, get_or-set_same, get_or-set_other, get_or_default, get_or_past, length-replicate, length-set}
use Rattle.std.proofs.lemmas.Option.{same_Some}
use Rattle.placement.specs.Inner.Queueing.{ArePlaces, has_place}

pub record Placed (positions : ℕ) (order : List ℕ) (done : ℕ) (places : List (Option ℕ)) : Type 0 where
  pub size : length places ≡ positions
  pub there : (x p : ℕ) → slice_index_or places x None ≡ Some p → (p < done) × (slice_index_or order p 0 ≡ x)
  pub all : (q : ℕ) → q < done → (p : ℕ) × (has_place places (slice_index_or order q 0) p ≡ true)

module _ (positions : ℕ) (order : List ℕ) (i : ℕ) (places : List (Option ℕ)) (was : Placed positions order i places) (low : slice_index_or order i 0 < positions) where
  abbrev here : ℕ
  here = slice_index_or order i 0

  abbrev now : List (Option ℕ)
  now = slice_set places here (Some i)

  inside : here < length places
  inside = let s = was.size in omega (arith, low, s)

  placed-here : has_place now here i ≡ true
  placed-here =
      ap (λ (o : Option ℕ). option_map_or (λ q. q == i) o false) (get_or-set_same places here (Some i) None inside) ∙ eq-eqb i i refl

  there-now : (x p : ℕ) → slice_index_or now x None ≡ Some p → (p < i + 1) × (slice_index_or order p 0 ≡ x)
  there-now x p h = elim (cases_eq x here) [
    | inl e ↦
        let same : i ≡ p = same_Some i p (sym (ap (λ y. slice_index_or now y None) e ∙ get_or-set_same places here (Some i) None inside) ∙ h) in
        (omega (arith, same), ap (λ y. slice_index_or order y 0) (sym same) ∙ sym e)
    | inr other ↦
        let old = was.there x p (sym (get_or-set_other places here x (Some i) None other) ∙ h) in
        let under = old.0 in
        (omega (arith, under), old.1)
  ]

  all-now : (q : ℕ) → q < i + 1 → (p : ℕ) × (has_place now (slice_index_or order q 0) p ≡ true)
  all-now q lt = elim (cases_eq (slice_index_or order q 0) here) [
    | inl e ↦ (i, subst (λ y. has_place now y i ≡ true) (sym e) placed-here)
    | inr other ↦ elim (cases_eq q i) [
      | inl same ↦ absurd (other (ap (λ y. slice_index_or order y 0) same))
      | inr before ↦
          let old = was.all q (omega (arith, lt, before)) in
          (old.0, ap (λ (o : Option ℕ). option_map_or (λ r. r == old.0) o false) (get_or-set_other places here (slice_index_or order q 0) (Some i) None other) ∙ old.1)
    ]
  ]

  pub placed-more : Placed positions order (i + 1) now
  placed-more = record { size = length-set places here (Some i) ∙ was.size; there = there-now; all = all-now }

pub none-placed : (positions : ℕ) (order : List ℕ) (places : List (Option ℕ)) → places ≡ replicate positions None → Placed positions order 0 places
none-placed positions order places is = record {
  size = ap length is ∙ length-replicate positions None;
  there = λ x p h. absurd (nowhere x p h);
  all = λ q lt. absurd (let f : ⊥ = omega (arith, lt) in f);
}
  where
    nowhere : (x p : ℕ) → slice_index_or places x None ≡ Some p → ⊥
    nowhere x p h = elim (cases_lt x positions) [
      | inl low ↦ (let e : None ≡ Some p = sym (ap (λ (os : List (Option ℕ)). slice_index_or os x None) is ∙ get_or-replicate positions x None None low) ∙ h in cc)
      | inr high ↦ (let e : None ≡ Some p = sym (ap (λ (os : List (Option ℕ)). slice_index_or os x None) is ∙ get_or_past (replicate positions None) x None (let none : Option ℕ = None in let n = length-replicate positions none in omega (arith, n, high))) ∙ h in cc)
    ]

pub placed-all : (positions : ℕ) (order : List ℕ) (done : ℕ) (places : List (Option ℕ)) → Placed positions order done places → done ≤ length order → length order ≤ done
    → ArePlaces order places × ((x : ℕ) → Contains order x → (p : ℕ) × (has_place places x p ≡ true))
placed-all positions order done places placed low high = (
  record { there = λ x p h. (let t = placed.there x p h in let u = t.0 in (omega (arith, u, low), t.1)) },
  λ x among. at x among,
)
  where
    at : (x : ℕ) → Contains order x → (p : ℕ) × (has_place places x p ≡ true)
    at x (k, lt, is) =
        let a = placed.all k (omega (arith, lt, high)) in
        let here : slice_index_or order k 0 ≡ x = get_or_default order k 0 x lt ∙ is in
        (a.0, subst (λ y. has_place places y a.0 ≡ true) here a.1)
