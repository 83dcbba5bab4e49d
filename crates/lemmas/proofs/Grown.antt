-- Lists that grow by what the next number or element gives.
use Rattle.std.proofs.Common.{◌≡◌, ◌<◌, ◌+◌, ℕ, List, [], ◌∷◌, ◌++◌, length, take, map, slice_index_or, sym, ◌∙◌, ap}
use Rattle.std.specs.List.{flat_map, range_with_len}
use Rattle.std.proofs.lemmas.List.{append_assoc, flat_map_more, take_more}
use Rattle.lemmas.proofs.Ranges.{flat_map-more, map-more}

-- by what one number more gives
pub value_more : {X : Type 0} (f : ℕ → X) (k : ℕ) (before after : List X) (x : X) → before ≡ map f (range_with_len 0 k) → x ≡ f k
    → after ≡ before ++ x ∷ [] → after ≡ map f (range_with_len 0 (k + 1))
value_more f k before after x was is push =
    push ∙ ap (λ xs. xs ++ x ∷ []) was ∙ ap (λ (y : _). map f (range_with_len 0 k) ++ y ∷ []) is ∙ sym (map-more f k)

pub values_more : {X : Type 0} (f : ℕ → List X) (k : ℕ) (old before after : List X) → before ≡ old ++ flat_map f (range_with_len 0 k)
    → after ≡ before ++ f k → after ≡ old ++ flat_map f (range_with_len 0 (k + 1))
values_more f k old before after was push =
    push ∙ ap (λ xs. xs ++ f k) was ∙ append_assoc old (flat_map f (range_with_len 0 k)) (f k) ∙ ap (λ xs. old ++ xs) (sym (flat_map-more f k))

-- by what one element more gives
pub elements_more : {X Y : Type 0} (f : X → List Y) (xs : List X) (i : ℕ) (x : X) (old before after : List Y) → i < length xs → x ≡ slice_index_or xs i x
    → before ≡ old ++ flat_map f (take i xs) → after ≡ before ++ f x → after ≡ old ++ flat_map f (take (i + 1) xs)
elements_more f xs i x old before after lt is was push =
    let t : take (i + 1) xs ≡ take i xs ++ x ∷ [] = rw (← is) at (take_more xs i x lt) in
    push ∙ ap (λ ys. ys ++ f x) was ∙ flat_map_more f old (take i xs) x ∙ ap (λ ys. old ++ flat_map f ys) (sym t)
