-- Which positions are clear at first: those from which no edge leads.
use Rattle.std.proofs.Common.{arith, ◌≡◌, ◌<◌, ◌≤◌, ◌+◌, ◌==◌, ◌&&◌, ◌||◌, ℕ, suc, zero, Bool, true, false, List, [], ◌∷◌, length, take, filter, cond, slice_index_or, refl, sym, ap, ◌∙◌, ◌≢◌, not, count_by, Contains}
use Rattle.std.specs.List.{IsDistinct, range_with_len}
use Rattle.std.proofs.lemmas.Bool.{eqb-true, eqb-false, eq-eqb, both_ways}
use Rattle.std.proofs.lemmas.Map.Keys.{IsDistinct-cons}
use Rattle.std.proofs.lemmas.Map.Made.{is_member-filter}
use Rattle.std.proofs.Math.Bool.{and-true}
use Rattle.lemmas.proofs.Booleans.{sooner, later}
use Rattle.lemmas.proofs.Counts.{count_none, count_agree}
use Rattle.edges.specs.declared.edge.Edge.{Edge}
use Rattle.edges.specs.Inner.Clearing.{Clears, edges_from}
use Rattle.edges.specs.Sources.{is_in_list}
use Rattle.edges.proofs.Members.{equal_laws, has_at, none_all}

-- a range has the numbers from its first on

in_range_on : (a n x : ℕ) (same : Bool) → (x == a) ≡ same → a ≤ x → x < a + suc n
    → (a + 1 ≤ x → x < (a + 1) + n → is_in_list (range_with_len (a + 1) n) x ≡ true)
    → same || is_in_list (range_with_len (a + 1) n) x ≡ true
in_range_on a n x true e low high rest = refl
in_range_on a n x false e low high rest = let d : x ≢ a = eqb-false x a e in rest (omega arith) (omega arith)

pub in_range : (a n x : ℕ) → a ≤ x → x < a + n → is_in_list (range_with_len a n) x ≡ true
in_range a zero x low high = absurd (let f : ⊥ = omega arith in f)
in_range a (suc n) x low high = in_range_on a n x (x == a) refl low high (in_range (a + 1) n x)

of_range_on : (a n x : ℕ) (same : Bool) → (x == a) ≡ same → same || is_in_list (range_with_len (a + 1) n) x ≡ true
    → (is_in_list (range_with_len (a + 1) n) x ≡ true → (a + 1 ≤ x) × (x < (a + 1) + n)) → (a ≤ x) × (x < a + suc n)
of_range_on a n x true e h rest = let d : x ≡ a = eqb-true x a e in (omega arith, omega arith)
of_range_on a n x false e h rest = let r = rest h in (omega arith, omega arith)

pub of_range : (a n x : ℕ) → is_in_list (range_with_len a n) x ≡ true → (a ≤ x) × (x < a + n)
of_range a zero x h = cc
of_range a (suc n) x h = of_range_on a n x (x == a) refl h (of_range (a + 1) n x)

module _ (p : ℕ → Bool) where
  pub has_filter : (xs : List ℕ) (x : ℕ) → is_in_list (filter p xs) x ≡ (is_in_list xs x && p x)
  has_filter xs x = is_member-filter equal_laws p x (λ y e. ap p (eqb-true x y e)) xs

  fresh : (a n : ℕ) → is_in_list (filter p (range_with_len (a + 1) n)) a ≡ false
  fresh a n = on (is_in_list (filter p (range_with_len (a + 1) n)) a) refl where
    on : (b : Bool) → is_in_list (filter p (range_with_len (a + 1) n)) a ≡ b → is_in_list (filter p (range_with_len (a + 1) n)) a ≡ false
    on true h =
        let r = of_range (a + 1) n a (sooner _ (p a) (sym (has_filter (range_with_len (a + 1) n) a) ∙ h)) in
        absurd (let f : ⊥ = omega arith in f)
    on false h = h

  distinct_on : (a n : ℕ) (b : Bool) → IsDistinct ◌==◌ (filter p (range_with_len (a + 1) n))
      → IsDistinct ◌==◌ (cond b (a ∷ filter p (range_with_len (a + 1) n)) (filter p (range_with_len (a + 1) n)))
  distinct_on a n true d =
      IsDistinct-cons ◌==◌ a (filter p (range_with_len (a + 1) n)) (none_all a (filter p (range_with_len (a + 1) n)) (fresh a n)) d
  distinct_on a n false d = d

  -- the numbers of a range that pass a test are different
  pub distinct_filter : (a n : ℕ) → IsDistinct ◌==◌ (filter p (range_with_len a n))
  unfolding IsDistinct
  distinct_filter a zero = tt
  distinct_filter a (suc n) = distinct_on a n (p a) (distinct_filter (a + 1) n)

module _ (positions : ℕ) (edges : List Edge) (waiting : List ℕ) (size : length waiting ≡ positions)
    (counted : (x : ℕ) → x < positions → slice_index_or waiting x 0 ≡ edges_from edges x) where
  abbrev is_done : ℕ → Bool
  is_done x = slice_index_or waiting x 0 == 0

  abbrev first : List ℕ
  first = filter is_done (range_with_len 0 positions)

  parts : (x : ℕ) → is_in_list first x ≡ true → is_in_list (range_with_len 0 positions) x && is_done x ≡ true
  parts x h = sym (has_filter is_done (range_with_len 0 positions) x) ∙ h

  within : (x : ℕ) → is_in_list first x ≡ true → x < positions
  within x h = let r = of_range 0 positions x (sooner _ (is_done x) (parts x h)) in omega arith

  all_counted : (x : ℕ) → x < positions
      → slice_index_or waiting x 0 ≡ count_by (λ e. x == e.before && not (is_in_list (take 0 first) e.after)) edges + count_by (◌==◌ x) []
  all_counted x lt =
      let c = counted x lt in
      let a = count_agree (λ e. x == e.before && true) (λ e. x == e.before) (λ e. and-true (x == e.before)) edges in
      omega arith

  all_ready : (x : ℕ) → x < positions → is_in_list first x ≡ is_done x
  all_ready x lt =
      has_filter is_done (range_with_len 0 positions) x ∙ ap (λ b. b && is_done x) (in_range 0 positions x (omega arith) (omega arith))

  no_edge : (x : ℕ) → is_in_list first x ≡ true → (e : Edge) → Contains edges e → e.before ≡ x → ⊥
  no_edge x h e (k, lt, at) from =
      let c = counted x (within x h) in
      let zero' : slice_index_or waiting x 0 ≡ 0 = eqb-true _ 0 (later (is_in_list (range_with_len 0 positions) x) (is_done x) (parts x h)) in
      both_ways (x == e.before) (count_none (λ e. x == e.before) edges (omega arith) k e lt at) (eq-eqb x e.before (sym from))

  pub begun : Clears positions edges 0 [] waiting first
  begun = record {
    enough = omega arith;
    size = size;
    distinct = distinct_filter is_done 0 positions;
    below = within;
    counted = all_counted;
    ready = all_ready;
    back = λ k e lt c from. absurd (no_edge (slice_index_or first k 0) (has_at first k lt) e c from);
  }
