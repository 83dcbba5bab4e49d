-- How counts change.
use Rattle.std.proofs.Common.{arith, ◌≡◌, ◌<◌, ◌≤◌, ◌+◌, ◌==◌, ◌&&◌, ◌||◌, not, ℕ, suc, zero, Bool, true, false, List, [], ◌∷◌, ◌++◌, length, map, filter, count_by, cond, slice_index_or, refl, ap, ◌∙◌}
use Rattle.std.specs.List.{list_any}
use Rattle.std.proofs.Math.Bool.{or-false}
use Rattle.std.proofs.lemmas.List.Sums.{sum_by-append, sum_by-cons}

pub count-append : {X : Type 0} (p : X → Bool) (xs ys : List X) → count_by p (xs ++ ys) ≡ count_by p xs + count_by p ys
count-append p xs ys = sum_by-append (λ x. cond (p x) 1 0) xs ys

pub count-cons : {X : Type 0} (p : X → Bool) (x : X) (xs : List X) → count_by p (x ∷ xs) ≡ cond (p x) 1 0 + count_by p xs
count-cons p x xs = sum_by-cons (λ x. cond (p x) 1 0) x xs

pub count-is : {X : Type 0} (p : X → Bool) (x : X) (xs : List X) (b : Bool) → p x ≡ b → count_by p (x ∷ xs) ≡ cond b 1 0 + count_by p xs
count-is p x xs b e = count-cons p x xs ∙ ap (λ (t : Bool). cond t 1 0 + count_by p xs) e

-- where no element passes, nothing is counted
none_on : {X : Type 0} (p : X → Bool) (x : X) (xs : List X) (b : Bool) → p x ≡ b → b || list_any p xs ≡ false
    → (list_any p xs ≡ false → count_by p xs ≡ 0) → count_by p (x ∷ xs) ≡ 0
none_on p x xs true e h rest = cc
none_on p x xs false e h rest =
    let c : count_by p (x ∷ xs) ≡ 0 + count_by p xs = count-is p x xs false e in
    let r : count_by p xs ≡ 0 = rest h in
    omega arith

pub count-none : {X : Type 0} (p : X → Bool) (xs : List X) → list_any p xs ≡ false → count_by p xs ≡ 0
count-none p [] h = refl
count-none p (x ∷ xs) h = none_on p x xs (p x) refl h (count-none p xs)

-- a test that passes for none counts none
pub count_of_none : {X : Type 0} (p : X → Bool) → ((x : X) → p x ≡ false) → (xs : List X) → count_by p xs ≡ 0
count_of_none p none [] = refl
count_of_none p none (x ∷ xs) = let c = count-is p x xs false (none x) in let r = count_of_none p none xs in omega arith

-- where nothing is counted, no element passes
count_none_on : {X : Type 0} (p : X → Bool) (x : X) (xs : List X) (b : Bool) → p x ≡ b → count_by p (x ∷ xs) ≡ 0 → b ≡ false
count_none_on p x xs true e h =
    let c : count_by p (x ∷ xs) ≡ 1 + count_by p xs = count-is p x xs true e in absurd (let f : ⊥ = omega arith in f)
count_none_on p x xs false e h = refl

pub count_none : {X : Type 0} (p : X → Bool) (xs : List X) → count_by p xs ≡ 0 → (k : ℕ) (x : X) → k < length xs
    → slice_index_or xs k x ≡ x → p x ≡ false
count_none p [] h k x lt at = absurd (let f : ⊥ = omega arith in f)
count_none p (y ∷ ys) h zero x lt at = rw (← at) (count_none_on p y ys (p y) refl h)
count_none p (y ∷ ys) h (suc k) x lt at = let c = count-cons p y ys in count_none p ys (omega arith) k x (omega arith) at

-- where something is counted, an element passes
count_some_on : {X : Type 0} (p : X → Bool) (x : X) (xs : List X) (b : Bool) → p x ≡ b → 0 < count_by p (x ∷ xs)
    → (0 < count_by p xs → list_any p xs ≡ true) → b || list_any p xs ≡ true
count_some_on p x xs true e h rest = refl
count_some_on p x xs false e h rest = let c : count_by p (x ∷ xs) ≡ 0 + count_by p xs = count-is p x xs false e in rest (omega arith)

pub count_some : {X : Type 0} (p : X → Bool) (xs : List X) → 0 < count_by p xs → list_any p xs ≡ true
count_some p [] h = absurd (let f : ⊥ = omega arith in f)
count_some p (x ∷ xs) h = count_some_on p x xs (p x) refl h (count_some p xs)

-- tests that agree count alike
count_agree_on : {X : Type 0} (p q : X → Bool) (x : X) (xs : List X) → p x ≡ q x → count_by p xs ≡ count_by q xs
    → count_by p (x ∷ xs) ≡ count_by q (x ∷ xs)
count_agree_on p q x xs e rest =
    let c : count_by p (x ∷ xs) ≡ cond (q x) 1 0 + count_by p xs = count-is p x xs (q x) e in
    let d = count-cons q x xs in
    omega arith

pub count_agree : {X : Type 0} (p q : X → Bool) → ((x : X) → p x ≡ q x) → (xs : List X) → count_by p xs ≡ count_by q xs
count_agree p q same [] = refl
count_agree p q same (x ∷ xs) = count_agree_on p q x xs (same x) (count_agree p q same xs)

-- a test that passes wherever another does counts no fewer, and more where it alone passes somewhere
pub count_more_on : {X : Type 0} (p q : X → Bool) (x : X) (xs : List X) (a b : Bool) → p x ≡ a → q x ≡ b → (a ≡ true → b ≡ true)
    → count_by p xs ≤ count_by q xs → count_by p (x ∷ xs) ≤ count_by q (x ∷ xs)
count_more_on p q x xs true true f g h rest =
    let c = count-is p x xs true f in
    let d = count-is q x xs true g in
    omega arith
count_more_on p q x xs true false f g h rest = let e = h refl in cc
count_more_on p q x xs false b f g h rest =
    let c = count-is p x xs false f in
    let d = count-is q x xs b g in
    omega arith

pub count_more : {X : Type 0} (p q : X → Bool) → ((x : X) → p x ≡ true → q x ≡ true) → (xs : List X) → count_by p xs ≤ count_by q xs
count_more p q more [] = omega arith
count_more p q more (x ∷ xs) = count_more_on p q x xs (p x) (q x) refl refl (more x) (count_more p q more xs)

count_less_on : {X : Type 0} (p q : X → Bool) (x : X) (xs : List X) (a b : Bool) → p x ≡ a → q x ≡ b → (a ≡ true → b ≡ true)
    → count_by p xs < count_by q xs → count_by p (x ∷ xs) < count_by q (x ∷ xs)
count_less_on p q x xs true true f g h rest =
    let c = count-is p x xs true f in
    let d = count-is q x xs true g in
    omega arith
count_less_on p q x xs true false f g h rest = let e = h refl in cc
count_less_on p q x xs false b f g h rest =
    let c = count-is p x xs false f in
    let d = count-is q x xs b g in
    omega arith

pub count_one_more : {X : Type 0} (p q : X → Bool) → ((x : X) → p x ≡ true → q x ≡ true) → (xs : List X) (k : ℕ) (x : X) → k < length xs
    → slice_index_or xs k x ≡ x → p x ≡ false → q x ≡ true → count_by p xs < count_by q xs
count_one_more p q more [] k x lt at f g = absurd (let f : ⊥ = omega arith in f)
count_one_more p q more (y ∷ ys) zero x lt at f g =
    let c = count-is p y ys false (rw at f) in
    let d = count-is q y ys true (rw at g) in
    let m = count_more p q more ys in
    omega arith
count_one_more p q more (y ∷ ys) (suc k) x lt at f g =
    let rest : count_by p ys < count_by q ys = count_one_more p q more ys k x (omega arith) at f g in
    count_less_on p q y ys (p y) (q y) refl refl (more y) rest

-- Pairs of positions, of which a set is taken: how many have `x` at the one end, and at the other a position that isn't taken.
abbrev pub beyond_by : {E : Type 0} → (E → ℕ) → (E → ℕ) → ℕ → (ℕ → Bool) → E → Bool
beyond_by end other x taken e = x == end e && not (taken (other e))

module _ {E : Type 0} (end other : E → ℕ) where
  abbrev ends_with : List E → ℕ → List ℕ
  ends_with es y = map end (filter (λ e. other e == y) es)

  moved : (b : Bool) (n : ℕ) → cond (b && true) 1 0 + n ≡ cond (b && false) 1 0 + (cond b 1 0 + n)
  moved true n = omega arith
  moved false n = omega arith

  one_first : (e : E) (es : List E) (y : ℕ) (b : Bool) → (other e == y) ≡ b → ends_with (e ∷ es) y ≡ cond b (end e ∷ ends_with es y) (ends_with es y)
  one_first e es y true h = rw h refl
  one_first e es y false h = rw h refl

  module _ (x y : ℕ) (before after : ℕ → Bool) (more : (a : ℕ) → after a ≡ (before a || (a == y))) (new : before y ≡ false) where
    one_of : (e : E) (es : List E) (b : Bool) → (other e == y) ≡ b
        → cond (beyond_by end other x before e) 1 0 + count_by (◌==◌ x) (ends_with es y)
        ≡ cond (beyond_by end other x after e) 1 0 + count_by (◌==◌ x) (ends_with (e ∷ es) y)
    one_of e es true h =
        let at : other e ≡ y = grind arith in
        let was : before (other e) ≡ false = rw at new in
        let is : after (other e) ≡ true = rw (more (other e), was, h) refl in
        let s = one_first e es y true h in
        let c = count-cons (◌==◌ x) (end e) (ends_with es y) in
        rw (was, is, s, c) (moved (x == end e) (count_by (◌==◌ x) (ends_with es y)))
    one_of e es false h =
        let same : after (other e) ≡ before (other e) = rw (more (other e), h) (or-false (before (other e))) in
        let s = one_first e es y false h in
        rw (same, s) refl

    -- one position more is taken: the pairs that have it at the other end aren't counted any more
    pub beyond_by_more : (es : List E) → count_by (beyond_by end other x before) es
        ≡ count_by (beyond_by end other x after) es + count_by (◌==◌ x) (map end (filter (λ e. other e == y) es))
    beyond_by_more [] = refl
    beyond_by_more (e ∷ es) =
        let f = count-cons (beyond_by end other x before) e es in
        let g = count-cons (beyond_by end other x after) e es in
        let h = one_of e es (other e == y) refl in
        let r = beyond_by_more es in
        omega arith
