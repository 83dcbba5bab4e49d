-- Which places of a queue are ready, with one position more taken.
use Rattle.std.proofs.Common.{arith, ◌≡◌, ◌≢◌, ℕ, ◌+◌, ◌<◌, ◌==◌, ◌&&◌, ◌||◌, not, Bool, true, false, Option, Some, None, List, length, count_by, slice_index_or, slice_set, Any, eqb-true, refl, sym, ap, subst, ◌∙◌, inl, inr}
use Rattle.std.specs.List.{list_any}
use Rattle.std.proofs.lemmas.Bool.{and_from, cases_eq, eq-eqb, false_from_ne_true, false≢true, or_right, or_left, not-true}
use Rattle.std.proofs.lemmas.List.{get_or-set_same, get_or-set_other}
use Rattle.std.proofs.lemmas.List.Elements.{Contains-get_or}
use Rattle.std.proofs.lemmas.List.Folds.{Any-from_list_any}
use Rattle.lemmas.proofs.Booleans.{either, later, same_test, sooner}
use Rattle.lemmas.proofs.Counts.{count-none}
use Rattle.lemmas.proofs.Searches.{passes_by}
use Rattle.placement.specs.Inner.Queueing.{ArePlaces, has_place, is_free}

-- a position has one place
pub place-is : (places : List (Option ℕ)) (x p : ℕ) → has_place places x p ≡ true → slice_index_or places x None ≡ Some p
place-is places x p h = go (slice_index_or places x None) refl
  where
    go : (o : Option ℕ) → slice_index_or places x None ≡ o → slice_index_or places x None ≡ Some p
    go None e = let f : false ≡ true = rw e at h in cc
    go (Some q) e =
        let same : (q == p) ≡ true = rw e at h in
        e ∙ ap Some (eqb-true q p same)

-- a position of a row that is free has its place
module _ (order : List ℕ) (places : List (Option ℕ)) (are : ArePlaces order places) (made : List Bool) (counts : List ℕ) where
  abbrev is_ready : ℕ → Bool
  is_ready p = has_place places (slice_index_or order p 0) p && is_free made counts (slice_index_or order p 0)

  found-at : (p : ℕ) (row : List ℕ) → list_any (λ x. is_free made counts x && has_place places x p) row ≡ true → is_ready p ≡ true
  found-at p row h = from (Any-from_list_any (λ x. is_free made counts x && has_place places x p) row h)
    where
      from : Any (λ x. is_free made counts x && has_place places x p ≡ true) row → is_ready p ≡ true
      from (i, x, lt, at, pass) =
          let free : is_free made counts x ≡ true = sooner (is_free made counts x) (has_place places x p) pass in
          let place : has_place places x p ≡ true = later (is_free made counts x) (has_place places x p) pass in
          let here : slice_index_or order p 0 ≡ x = (are.there x p (place-is places x p place)).1 in
          subst (λ y. has_place places y p && is_free made counts y ≡ true) (sym here) (and_from (has_place places x p) (is_free made counts x) place free)

  -- of all positions those that are free
  pub all-ready : (p : ℕ) → p < length order → list_any (λ x. is_free made counts x && has_place places x p) order ≡ is_ready p
  all-ready p lt = same_test (list_any (λ x. is_free made counts x && has_place places x p) order) (is_ready p) (found-at p order) (λ h.
      let x = slice_index_or order p 0 in
      passes_by (λ x. is_free made counts x && has_place places x p) order x (Contains-get_or order p 0 lt)
      (and_from (is_free made counts x) (has_place places x p) (later (has_place places x p) (is_free made counts x) h) (sooner (has_place places x p) (is_free made counts x) h)))

module _ (order : List ℕ) (places : List (Option ℕ)) (are : ArePlaces order places) (made : List Bool) (counts : List ℕ) (ready : List Bool)
    (readied : (p : ℕ) → p < length order → slice_index_or ready p false ≡ (has_place places (slice_index_or order p 0) p && is_free made counts (slice_index_or order p 0)))
    (size : length ready ≡ length order) (first : ℕ) (inside : first < length order) (is : slice_index_or ready first false ≡ true) where
  abbrev taken : ℕ
  taken = slice_index_or order first 0

  abbrev next : List Bool
  next = slice_set made taken true

  at-first : has_place places taken first ≡ true
  at-first = sooner (has_place places taken first) _ (sym (readied first inside) ∙ is)

  pub was-open : slice_index_or made taken false ≡ false
  was-open =
      let free = later (has_place places taken first) (is_free made counts taken) (sym (readied first inside) ∙ is) in
      not-true (slice_index_or made taken false) (sooner (not (slice_index_or made taken false)) _ free)

  module _ (within : taken < length made) (row new : List ℕ) (less : (x : ℕ) → slice_index_or new x 0 + count_by (◌==◌ x) row ≡ slice_index_or counts x 0) where
    abbrev passes : ℕ → ℕ → Bool
    passes p x = is_free next new x && has_place places x p

    -- a place that was ready and isn't the first is still
    still : (p : ℕ) → p < length order → slice_index_or (slice_set ready first false) p false ≡ true
        → has_place places (slice_index_or order p 0) p && is_free next new (slice_index_or order p 0) ≡ true
    still p lt h = elim (cases_eq p first) [
      | inl e ↦ absurd (false≢true (sym (ap (λ q. slice_index_or (slice_set ready first false) q false) e ∙ get_or-set_same ready first false false (omega arith)) ∙ h))
      | inr other ↦
          let x = slice_index_or order p 0 in
          let was : slice_index_or ready p false ≡ true = sym (get_or-set_other ready first p false false other) ∙ h in
          let both = sym (readied p lt) ∙ was in
          let at : has_place places x p ≡ true = sooner (has_place places x p) (is_free made counts x) both in
          let free : is_free made counts x ≡ true = later (has_place places x p) (is_free made counts x) both in
          let apart : x ≢ taken = (λ e.
          let one : Some p ≡ Some first = sym (place-is places x p at) ∙ (ap (λ y. slice_index_or places y None) e ∙ place-is places taken first at-first) in
          let same : p ≡ first = cc in
          other same) in
          let open_now : slice_index_or next x false ≡ slice_index_or made x false = get_or-set_other made taken x true false apart in
          let zero_was : slice_index_or counts x 0 ≡ 0 = eqb-true (slice_index_or counts x 0) 0 (later (not (slice_index_or made x false)) _ free) in
          let l = less x in
          let zero_now : slice_index_or new x 0 ≡ 0 = omega arith in
          and_from (has_place places x p) (is_free next new x) at
          (and_from (not (slice_index_or next x false)) (slice_index_or new x 0 == 0)
          (ap not open_now ∙ sooner (not (slice_index_or made x false)) _ free) (eq-eqb (slice_index_or new x 0) 0 zero_now))
    ]

    -- and there are no others
    known : (p : ℕ) → p < length order → has_place places (slice_index_or order p 0) p && is_free next new (slice_index_or order p 0) ≡ true
        → slice_index_or (slice_set ready first false) p false || list_any (passes p) row ≡ true
    known p lt h = go (list_any (passes p) row) refl
      where
        x : ℕ
        x = slice_index_or order p 0

        at : has_place places x p ≡ true
        at = sooner (has_place places x p) (is_free next new x) h

        free : is_free next new x ≡ true
        free = later (has_place places x p) (is_free next new x) h

        out : slice_index_or next x false ≡ false
        out = not-true (slice_index_or next x false) (sooner (not (slice_index_or next x false)) _ free)

        go : (b : Bool) → list_any (passes p) row ≡ b → slice_index_or (slice_set ready first false) p false || list_any (passes p) row ≡ true
        go true e = or_right (slice_index_or (slice_set ready first false) p false) _ e
        go false e =
            let apart : x ≢ taken = (λ s. false≢true (sym out ∙ (ap (λ y. slice_index_or next y false) s ∙ get_or-set_same made taken true false within))) in
            let other : p ≢ first = (λ s. apart (ap (λ q. slice_index_or order q 0) s)) in
            let missing : list_any (◌==◌ x) row ≡ false = false_from_ne_true (list_any (◌==◌ x) row) (λ t. absent (Any-from_list_any (◌==◌ x) row t)) in
            let none : count_by (◌==◌ x) row ≡ 0 = count-none (◌==◌ x) row missing in
            let zero_now : slice_index_or new x 0 ≡ 0 = eqb-true (slice_index_or new x 0) 0 (later (not (slice_index_or next x false)) _ free) in
            let l = less x in
            let zero_was : slice_index_or counts x 0 ≡ 0 = omega arith in
            let open_was : slice_index_or made x false ≡ false = sym (get_or-set_other made taken x true false apart) ∙ out in
            let was : slice_index_or ready p false ≡ true = readied p lt ∙ and_from (has_place places x p) (is_free made counts x) at
            (and_from (not (slice_index_or made x false)) (slice_index_or counts x 0 == 0) (ap not open_was) (eq-eqb (slice_index_or counts x 0) 0 zero_was)) in
            or_left (slice_index_or (slice_set ready first false) p false) _ (get_or-set_other ready first p false false other ∙ was)
          where
            absent : Any (λ y. (x == y) ≡ true) row → ⊥
            absent (i, y, lt_row, is_there, same) =
                let s : x ≡ y = eqb-true x y same in
                let pass : passes p y ≡ true = subst (λ z. passes p z ≡ true) s (and_from (is_free next new x) (has_place places x p) free at) in
                false≢true (sym e ∙ passes_by (passes p) row y (i, lt_row, is_there) pass)

    pub readied-next : (after : List Bool) → ((p : ℕ) → slice_index_or after p false ≡ (slice_index_or (slice_set ready first false) p false || list_any (passes p) row))
        → (p : ℕ) → p < length order → slice_index_or after p false ≡ (has_place places (slice_index_or order p 0) p && is_free next new (slice_index_or order p 0))
    readied-next after all p lt =
        all p ∙ same_test (slice_index_or (slice_set ready first false) p false || list_any (passes p) row)
        (has_place places (slice_index_or order p 0) p && is_free next new (slice_index_or order p 0))
        (λ h. either (slice_index_or (slice_set ready first false) p false) (list_any (passes p) row) h (still p lt) (found-at order places are next new p row))
        (known p lt)
