-- A list that grows by what one element more gives, where a test keeps it.
use Rattle.std.proofs.Common.{◌≡◌, ◌<◌, ◌+◌, ℕ, Bool, true, false, cond, if◌then◌else◌, List, [], ◌∷◌, ◌++◌, length, take, map, filter, slice_index_or, refl, sym, ap, ◌∙◌}
use Rattle.std.proofs.lemmas.List.{append-nil, append_assoc, map-append, take_more}
use Rattle.std.proofs.lemmas.List.Elements.{filter-append}

-- by an element that the test keeps, or doesn't
module _ {X Y : Type 0} (f : X → Y) (p : X → Bool) (old : List Y) (xs : List X) (i : ℕ) (x : X) (lt : i < length xs) (is : x ≡ slice_index_or xs i x) where
  filter_more : (b : Bool) → p x ≡ b → filter p (take (i + 1) xs) ≡ filter p (take i xs) ++ (cond b (x ∷ []) [])
  filter_more b e =
      let t : take (i + 1) xs ≡ take i xs ++ x ∷ [] = rw (← is) at (take_more xs i x lt) in
      ap (filter p) t ∙ filter-append p (take i xs) (x ∷ []) ∙ ap (λ (k : Bool). filter p (take i xs) ++ cond k (x ∷ []) []) e

  kept_more : (before after : List Y) → p x ≡ true → before ≡ old ++ map f (filter p (take i xs)) → after ≡ before ++ f x ∷ []
      → after ≡ old ++ map f (filter p (take (i + 1) xs))
  kept_more before after e was push =
      push ∙ ap (λ ys. ys ++ f x ∷ []) was ∙ append_assoc old (map f (filter p (take i xs))) (f x ∷ [])
      ∙ ap (λ ys. old ++ ys) (sym (ap (map f) (filter_more true e) ∙ map-append f (filter p (take i xs)) (x ∷ [])))

  passed_over : (now : List Y) → p x ≡ false → now ≡ old ++ map f (filter p (take i xs)) → now ≡ old ++ map f (filter p (take (i + 1) xs))
  passed_over now e was = was ∙ ap (λ ys. old ++ map f ys) (sym (filter_more false e ∙ append-nil (filter p (take i xs))))

pub one_more : {X Y : Type 0} (f : X → Y) (p : X → Bool) (xs : List X) (i : ℕ) (x : X) (old before after : List Y) → i < length xs
    → x ≡ slice_index_or xs i x → before ≡ old ++ map f (filter p (take i xs)) → after ≡ before ++ (if p x then f x ∷ [] else [])
    → after ≡ old ++ map f (filter p (take (i + 1) xs))
one_more f p xs i x old before after lt is was grown = on (p x) refl grown where
  on : (b : Bool) → p x ≡ b → after ≡ before ++ (if b then f x ∷ [] else []) → after ≡ old ++ map f (filter p (take (i + 1) xs))
  on true e grown = kept_more f p old xs i x lt is before after e was grown
  on false e grown = passed_over f p old xs i x lt is after e (grown ∙ append-nil before ∙ was)
