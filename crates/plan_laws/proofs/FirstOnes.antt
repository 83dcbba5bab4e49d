-- Of some numbers that stand in a strict order, no more than k have fewer than k others before them.
use Rattle.std.proofs.Common.{arith, ◌≡◌, ◌≢◌, ◌==◌, ◌&&◌, ◌||◌, nat_lt, ℕ, suc, zero, ◌+◌, ◌<◌, ◌≤◌, Bool, true, false, List, [], ◌∷◌, ◌⊎◌, inl, inr, refl, count_by, cond, slice_index_or, Any}
use Rattle.std.specs.List.{range_with_len}
use Rattle.std.proofs.lemmas.List.FromFn.{length-range_with_len, get_or-range_with_len}
use Rattle.std.proofs.lemmas.Bool.{and_from, and_right, cases_eq, eqb-true}
use Rattle.std.proofs.lemmas.List.Folds.{Any-from_list_any}
use Rattle.lemmas.proofs.Booleans.{sooner, later}
use Rattle.lemmas.proofs.Counts.{count-is, count_of_none, count_one_more, count_some}

-- two tests that together pass wherever a third does
module _ {X : Type 0} (p q r : X → Bool) (parts : (x : X) → r x ≡ true → p x || q x ≡ true) where
  both_on : (x : X) (xs : List X) (a b t : Bool) → p x ≡ a → q x ≡ b → r x ≡ t → (t ≡ true → a || b ≡ true)
      → count_by r xs ≤ count_by p xs + count_by q xs → count_by r (x ∷ xs) ≤ count_by p (x ∷ xs) + count_by q (x ∷ xs)
  both_on x xs true b t e f g h rest =
      let u = count-is p x xs true e in let v = count-is q x xs b f in let w = count-is r x xs t g in at b t u v w
    where
      at : (b t : Bool) → count_by p (x ∷ xs) ≡ 1 + count_by p xs → count_by q (x ∷ xs) ≡ cond b 1 0 + count_by q xs → count_by r (x ∷ xs) ≡ cond t 1 0 + count_by r xs
          → count_by r (x ∷ xs) ≤ count_by p (x ∷ xs) + count_by q (x ∷ xs)
      at true true u v w = omega arith
      at true false u v w = omega arith
      at false true u v w = omega arith
      at false false u v w = omega arith
  both_on x xs false true t e f g h rest =
      let u = count-is p x xs false e in let v = count-is q x xs true f in let w = count-is r x xs t g in at t w
    where
      at : (t : Bool) → count_by r (x ∷ xs) ≡ cond t 1 0 + count_by r xs → count_by r (x ∷ xs) ≤ count_by p (x ∷ xs) + count_by q (x ∷ xs)
      at true w = let u = count-is p x xs false e in let v = count-is q x xs true f in omega arith
      at false w = let u = count-is p x xs false e in let v = count-is q x xs true f in omega arith
  both_on x xs false false true e f g h rest = let k = h refl in cc
  both_on x xs false false false e f g h rest =
      let u = count-is p x xs false e in let v = count-is q x xs false f in let w = count-is r x xs false g in omega arith

  pub count_both : (xs : List X) → count_by r xs ≤ count_by p xs + count_by q xs
  count_both [] = omega arith
  count_both (x ∷ xs) = both_on x xs (p x) (q x) (r x) refl refl refl (parts x) (count_both xs)

-- a test that passes for one number at most
none_later : (p : ℕ → Bool) (first last : ℕ) → ((x y : ℕ) → x < last → y < last → p x ≡ true → p y ≡ true → x ≡ y) → p first ≡ true
    → (from m : ℕ) → first < from → from + m ≤ last → count_by p (range_with_len from m) ≡ 0
none_later p first last one h from zero low high = refl
none_later p first last one h from (suc m) low high = on (p from) refl (none_later p first last one h (from + 1) m (omega arith) (omega arith))
  where
    on : (b : Bool) → p from ≡ b → count_by p (range_with_len (from + 1) m) ≡ 0 → count_by p (from ∷ range_with_len (from + 1) m) ≡ 0
    on true k r = let same = one first from (omega arith) (omega arith) h k in absurd (let f : ⊥ = omega arith in f)
    on false k r = let c = count-is p from (range_with_len (from + 1) m) false k in omega arith

at_most_one : (p : ℕ → Bool) (first n : ℕ) → ((x y : ℕ) → x < first + n → y < first + n → p x ≡ true → p y ≡ true → x ≡ y) → count_by p (range_with_len first n) ≤ 1
at_most_one p first zero one = omega arith
at_most_one p first (suc n) one = go (p first) refl (at_most_one p (first + 1) n (λ x y a b. one x y (omega arith) (omega arith)))
  where
    go : (b : Bool) → p first ≡ b → count_by p (range_with_len (first + 1) n) ≤ 1 → count_by p (first ∷ range_with_len (first + 1) n) ≤ 1
    go true h rest =
        let c = count-is p first (range_with_len (first + 1) n) true h in
        let z = none_later p first (first + suc n) one h (first + 1) n (omega arith) (omega arith) in
        omega arith
    go false h rest = let c = count-is p first (range_with_len (first + 1) n) false h in omega arith

module _ (n : ℕ) (among : ℕ → Bool) (before : ℕ → ℕ → Bool)
    (one_way : (x y : ℕ) → before x y ≡ true → before y x ≡ true → ⊥)
    (onward : (x y z : ℕ) → before x y ≡ true → before y z ≡ true → before x z ≡ true)
    (some_way : (x y : ℕ) → x ≢ y → before x y ≡ false → before y x ≡ true) where
  abbrev pub goes_first : ℕ → ℕ → Bool
  goes_first x y = among y && before y x

  -- how many go before it
  abbrev pub ahead : ℕ → ℕ
  ahead x = count_by (goes_first x) (range_with_len 0 n)

  not_itself : (x : ℕ) → (b : Bool) → before x x ≡ b → before x x ≡ false
  not_itself x true h = absurd (one_way x x h h)
  not_itself x false h = h

  -- fewer go before one that goes before another
  fewer : (x y : ℕ) → x < n → among x ≡ true → before x y ≡ true → ahead x < ahead y
  fewer x y low a h =
      let long = length-range_with_len 0 n in
      let at : slice_index_or (range_with_len 0 n) x x ≡ x = let e = get_or-range_with_len 0 n x x low in omega (arith, e) in
      count_one_more (goes_first x) (goes_first y)
      (λ z t. and_from (among z) (before z y) (sooner (among z) (before z x) t) (onward z x y (later (among z) (before z x) t) h))
      (range_with_len 0 n) x x (omega arith) at (and_right (among x) (before x x) (not_itself x (before x x) refl)) (and_from (among x) (before x y) a h)

  abbrev has_ahead : ℕ → ℕ → Bool
  has_ahead k x = among x && ahead x == k

  -- two that have as many before them are one
  same : (k x y : ℕ) → x < n → y < n → has_ahead k x ≡ true → has_ahead k y ≡ true → x ≡ y
  same k x y low low' h h' = go (cases_eq x y)
    where
      a : among x ≡ true
      a = sooner (among x) (ahead x == k) h

      a' : among y ≡ true
      a' = sooner (among y) (ahead y == k) h'

      e : ahead x ≡ k
      e = let t = later (among x) (ahead x == k) h in eqb-true (ahead x) k t

      e' : ahead y ≡ k
      e' = let t = later (among y) (ahead y == k) h' in eqb-true (ahead y) k t

      way : x ≢ y → (b : Bool) → before x y ≡ b → x ≡ y
      way other true h = let f = fewer x y low a h in let u = e in let v = e' in absurd (let f : ⊥ = omega arith in f)
      way other false h = let f = fewer y x low' a' (some_way x y other h) in let u = e in let v = e' in absurd (let f : ⊥ = omega arith in f)

      go : (x ≡ y) ⊎ (x ≢ y) → x ≡ y
      go (inl s) = s
      go (inr other) = way other (before x y) refl

  abbrev pub is_first_of : ℕ → ℕ → Bool
  is_first_of k x = among x && nat_lt (ahead x) k

  none_below : (m : ℕ) → nat_lt m 0 ≡ false
  none_below m = grind arith

  below_or_at : (a : Bool) (m k : ℕ) → a && nat_lt m (suc k) ≡ true → (a && nat_lt m k) || (a && m == k) ≡ true
  below_or_at true m k h = grind arith
  below_or_at false m k h = h

  pub few_first : (k : ℕ) → count_by (is_first_of k) (range_with_len 0 n) ≤ k
  few_first zero = let z = count_of_none (is_first_of 0) (λ x. and_right (among x) (nat_lt (ahead x) 0) (none_below (ahead x))) (range_with_len 0 n) in omega arith
  few_first (suc k) =
      let parts = count_both (is_first_of k) (has_ahead k) (is_first_of (suc k)) (λ x. below_or_at (among x) (ahead x) k) (range_with_len 0 n) in
      let one = at_most_one (has_ahead k) 0 n (λ x y l m. same k x y (omega (arith, l)) (omega (arith, m))) in
      let rest = few_first k in
      omega arith

  -- where there is one, there is one with none before it
  pub record FirstAmong : Type 0 where
    pub one : ℕ
    pub within : one < n
    pub there : among one ≡ true
    pub none_before : ahead one ≡ 0

  record OneBefore (x : ℕ) : Type 0 where
    pub one : ℕ
    pub within : one < n
    pub there : among one ≡ true
    pub before_it : before one x ≡ true

  one_before : (x : ℕ) → 0 < ahead x → OneBefore x
  one_before x some = at (Any-from_list_any (goes_first x) (range_with_len 0 n) (count_some (goes_first x) (range_with_len 0 n) some))
    where
      at : Any (λ y. goes_first x y ≡ true) (range_with_len 0 n) → OneBefore x
      at (k, y, lt, there, h) =
          let long = length-range_with_len 0 n in
          let is = get_or-range_with_len 0 n k y (omega arith) in
          record { one = y; within = omega arith; there = sooner (among y) (before y x) h; before_it = later (among y) (before y x) h }

  descend : (room x : ℕ) → x < n → among x ≡ true → ahead x ≤ room → FirstAmong
  descend zero x low a le = record { one = x; within = low; there = a; none_before = omega arith }
  descend (suc room) x low a le = elim (cases_eq (ahead x) 0) [
    | inl none ↦ record { one = x; within = low; there = a; none_before = none }
    | inr some ↦
        let b : OneBefore x = one_before x (omega arith) in
        let less = fewer b.one x b.within b.there b.before_it in
        descend room b.one b.within b.there (omega arith)
  ]

  pub first_among : (x : ℕ) → x < n → among x ≡ true → FirstAmong
  first_among x low a = descend (ahead x) x low a (omega arith)
