-- Picking the first one again and again gives the ones that have few before them: what was picked goes before what is left, and as many were picked as the
-- cap, or all.
use Rattle.std.proofs.Common.{arith, ◌≡◌, ◌<◌, ◌≤◌, ◌&&◌, nat_lt, ℕ, Bool, true, false, refl, count_by, slice_index_or}
use Rattle.std.specs.List.{range_with_len}
use Rattle.std.proofs.lemmas.List.FromFn.{length-range_with_len, get_or-range_with_len}
use Rattle.std.proofs.lemmas.Bool.{and_from, false_from_ne_true, lt-ltb, ltb-true}
use Rattle.lemmas.proofs.Booleans.{sooner, later}
use Rattle.lemmas.proofs.Counts.{count_more, count_one_more}
use Rattle.plan_laws.proofs.MadeOnes.{never_both}

module _ (n : ℕ) (among : ℕ → Bool) (before : ℕ → ℕ → Bool) (one_way : (x y : ℕ) → before x y ≡ true → before y x ≡ true → ⊥)
    (picked : ℕ → Bool) (fits : (x : ℕ) → picked x ≡ true → among x ≡ true)
    (goes : (x y : ℕ) → picked x ≡ true → among y ≡ true → picked y ≡ false → before x y ≡ true) where
  abbrev ahead : ℕ → ℕ
  ahead x = count_by (λ y. among y && before y x) (range_with_len 0 n)

  abbrev pub how_many : ℕ
  how_many = count_by picked (range_with_len 0 n)

  at_place : (x : ℕ) → x < n → slice_index_or (range_with_len 0 n) x x ≡ x
  at_place x low = let e = get_or-range_with_len 0 n x x low in omega (arith, e)

  -- only what was picked goes before what was picked
  picked_too : (x y : ℕ) → picked x ≡ true → among y && before y x ≡ true → picked y ≡ true
  picked_too x y p h = go (picked y) refl
    where
      go : (b : Bool) → picked y ≡ b → picked y ≡ true
      go true e = e
      go false e = absurd (one_way x y (goes x y p (sooner (among y) (before y x) h) e) (later (among y) (before y x) h))

  few_ahead : (x : ℕ) → x < n → picked x ≡ true → ahead x < how_many
  few_ahead x low p =
      let long = length-range_with_len 0 n in
      count_one_more (λ y. among y && before y x) picked (λ y h. picked_too x y p h) (range_with_len 0 n) x x (omega arith) (at_place x low)
      (false_from_ne_true (among x && before x x) (λ h. let b = later (among x) (before x x) h in one_way x x b b)) p

  -- and all that was goes before what wasn't
  many_ahead : (x : ℕ) → among x ≡ true → picked x ≡ false → how_many ≤ ahead x
  many_ahead x a p = count_more picked (λ y. among y && before y x) (λ y h. and_from (among y) (before y x) (fits y h) (goes y x h a p)) (range_with_len 0 n)

  pub picked_are_first : (cap : ℕ) → how_many ≤ cap → ((x : ℕ) → x < n → among x ≡ true → picked x ≡ false → cap ≤ how_many) → (x : ℕ) → x < n
      → picked x ≡ (among x && nat_lt (ahead x) cap)
  picked_are_first cap most enough x low = go (picked x) refl (among x) refl
    where
      go : (p : Bool) → picked x ≡ p → (a : Bool) → among x ≡ a → picked x ≡ (among x && nat_lt (ahead x) cap)
      go true e true f =
          let few = few_ahead x low e in
          let less : nat_lt (ahead x) cap ≡ true = lt-ltb (ahead x) cap (omega arith) in
          rw (e, f, less) refl
      go true e false f = absurd (never_both (among x) (fits x e) f)
      go false e true f =
          let many = many_ahead x f e in
          let full = enough x low f e in
          let no : nat_lt (ahead x) cap ≡ false = false_from_ne_true (nat_lt (ahead x) cap) (λ h. let l : ahead x < cap = ltb-true (ahead x) cap h in absurd (let g : ⊥ = omega arith in g)) in
          rw (e, f, no) refl
      go false e false f = rw (e, f) refl
