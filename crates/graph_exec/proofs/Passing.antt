-- Numbers of a range that pass a test, one number more.
use Rattle.std.proofs.Common.{arith, ◌≡◌, ◌≤◌, ◌+◌, ◌-◌, ℕ, Bool, true, false, List, [], ◌∷◌, ◌++◌, map, filter, cond, ap, sym, ◌∙◌}
use Rattle.std.specs.List.{range_with_len}
use Rattle.std.proofs.lemmas.List.{map-id, append-nil}
use Rattle.std.proofs.lemmas.List.FromFn.{filter_of_map_range_with_len_more}

filter_on : (p : ℕ → Bool) (a n : ℕ) → filter p (range_with_len a (n + 1)) ≡ filter p (range_with_len a n) ++ cond (p (a + n)) ((a + n) ∷ []) []
filter_on p a n =
    let e : filter p (map (λ x. x) (range_with_len a (n + 1))) ≡ filter p (map (λ x. x) (range_with_len a n)) ++ cond (p (a + n)) ((a + n) ∷ []) []
    = filter_of_map_range_with_len_more p (λ x. x) a n (a + n) (omega arith) in
    rw (map-id (range_with_len a (n + 1)), map-id (range_with_len a n)) at e

filter_next : (p : ℕ → Bool) (a i : ℕ) → a ≤ i
    → filter p (range_with_len a (i + 1 - a)) ≡ filter p (range_with_len a (i - a)) ++ cond (p i) (i ∷ []) []
filter_next p a i le =
    let e : i + 1 - a ≡ (i - a) + 1 = omega arith in
    let f : a + (i - a) ≡ i = omega arith in
    rw e (rw f at (filter_on p a (i - a)))

pub passed_by : (p : ℕ → Bool) (a i : ℕ) (xs : List ℕ) → a ≤ i → p i ≡ false → xs ≡ filter p (range_with_len a (i - a))
    → xs ≡ filter p (range_with_len a (i + 1 - a))
passed_by p a i xs le fails before =
    before ∙ sym (filter_next p a i le ∙ ap (λ (b : Bool). filter p (range_with_len a (i - a)) ++ cond b (i ∷ []) []) fails ∙ append-nil _)

pub taken_in : (p : ℕ → Bool) (a i : ℕ) (xs : List ℕ) → a ≤ i → p i ≡ true → xs ≡ filter p (range_with_len a (i - a))
    → xs ++ i ∷ [] ≡ filter p (range_with_len a (i + 1 - a))
taken_in p a i xs le passes before =
    ap (λ ys. ys ++ i ∷ []) before
    ∙ sym (filter_next p a i le ∙ ap (λ (b : Bool). filter p (range_with_len a (i - a)) ++ cond b (i ∷ []) []) passes)
