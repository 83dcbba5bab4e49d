-- The first element that a search finds.
use Rattle.std.proofs.Common.{arith, ◌≡◌, ◌<◌, ◌≤◌, ◌+◌, ◌==◌, ◌&&◌, not, ℕ, suc, zero, Bool, true, false, cond, Some, None, List, [], ◌∷◌, refl, ap, subst}
use Rattle.std.specs.Prelude.{is_some}
use Rattle.std.specs.List.{AllByRecursion, find, list_all, range_with_len}
use Rattle.cluster_types.specs.Reasons.{IsFirstOf}
use Rattle.plan_laws.proofs.MadeOnes.{never_both}

module _ {X : Type 0} (p : X → Bool) (P : X → Type 0) (yes : (x : X) → p x ≡ true → P x) (no : (x : X) → P x → p x ≡ true) where
  pub found_first : (xs : List X) (x : X) → find p xs ≡ Some x → IsFirstOf P xs x
  found_first [] x h = cc
  found_first (y ∷ xs) x h = go (p y) refl h (found_first xs x)
    where
      go : (b : Bool) → p y ≡ b → cond b (Some y) (find p xs) ≡ Some x → (find p xs ≡ Some x → IsFirstOf P xs x) → IsFirstOf P (y ∷ xs) x
      go true e h rest =
          let same : y ≡ x = cc in
          record { before = []; after = xs; split = ap (λ (z : X). z ∷ xs) same; none_before = tt; holds = subst P same (yes y e) }
      go false e h rest =
          let f : IsFirstOf P xs x = rest h in
          record {
            before = y ∷ f.before;
            after = f.after;
            split = ap (λ (ys : List X). y ∷ ys) f.split;
            none_before = ((λ q. never_both (p y) (no y q) e), f.none_before);
            holds = f.holds;
          }

  pub found_none : (xs : List X) → find p xs ≡ None → AllByRecursion (λ y. ¬ P y) xs
  found_none [] h = tt
  found_none (y ∷ xs) h = go (p y) refl h (found_none xs)
    where
      go : (b : Bool) → p y ≡ b → cond b (Some y) (find p xs) ≡ None → (find p xs ≡ None → AllByRecursion (λ y. ¬ P y) xs)
          → AllByRecursion (λ y. ¬ P y) (y ∷ xs)
      go true e h rest = cc
      go false e h rest = ((λ q. never_both (p y) (no y q) e), rest h)

-- a search finds none just when all fail
pub finds_none : {X : Type 0} (p : X → Bool) (xs : List X) → not (is_some (find p xs)) ≡ list_all (λ x. not (p x)) xs
finds_none p [] = refl
finds_none p (x ∷ xs) = go (p x) (finds_none p xs)
  where
    go : (b : Bool) → not (is_some (find p xs)) ≡ list_all (λ x. not (p x)) xs
        → not (is_some (cond b (Some x) (find p xs))) ≡ (not b && list_all (λ x. not (p x)) xs)
    go true rest = refl
    go false rest = rest

-- the least of some numbers
pub record Least (p : ℕ → Bool) (from count k : ℕ) : Type 0 where
  pub within : k < from + count
  pub passes : p k ≡ true
  pub none_before : (m : ℕ) → from ≤ m → m < k → p m ≡ false

pub found_least : (p : ℕ → Bool) (from count k : ℕ) → find p (range_with_len from count) ≡ Some k → Least p from count k
found_least p from zero k h = cc
found_least p from (suc count) k h = go (p from) refl h (found_least p (from + 1) count k)
  where
    go : (b : Bool) → p from ≡ b → cond b (Some from) (find p (range_with_len (from + 1) count)) ≡ Some k
        → (find p (range_with_len (from + 1) count) ≡ Some k → Least p (from + 1) count k) → Least p from (suc count) k
    go true e h rest =
        let same : from ≡ k = cc in
        record {
          within = omega arith;
          passes = subst (λ (z : ℕ). p z ≡ true) same e;
          none_before = λ m low high. absurd (let f : ⊥ = omega arith in f);
        }
    go false e h rest =
        let l : Least p (from + 1) count k = rest h in
        let high = l.within in
        record { within = omega arith; passes = l.passes; none_before = λ m low lt. first_or_later m low lt l (m == from) refl }
      where
        first_or_later : (m : ℕ) → from ≤ m → m < k → Least p (from + 1) count k → (b : Bool) → (m == from) ≡ b → p m ≡ false
        first_or_later m low lt l true f = let s : from ≡ m = grind arith in subst (λ (z : ℕ). p z ≡ false) s e
        first_or_later m low lt l false f = l.none_before m (let g : from + 1 ≤ m = grind arith in g) lt
