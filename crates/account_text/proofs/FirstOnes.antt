-- The first element that passes, searched one by one.
use Rattle.std.proofs.Common.{◌≡◌, ℕ, ◌+◌, ◌<◌, Bool, true, false, cond, Option, Some, None, List, [], ◌∷◌, ◌++◌, length, take, drop, slice_index_or, sym, ap, ◌∙◌}
use Rattle.std.specs.Prelude.{find}
use Rattle.std.specs.Option.{option_or}
use Rattle.std.proofs.lemmas.List.{take-append-drop, take_more}
use Rattle.std.proofs.lemmas.List.Folds.{find-append}

module _ {X : Type 0} (p : X → Bool) (xs : List X) (i : ℕ) (x : X) (low : i < length xs) (at : x ≡ slice_index_or xs i x) where
  with_it : find p (take i xs) ≡ None → find p (take (i + 1) xs) ≡ cond (p x) (Some x) None
  with_it none =
      let t : take (i + 1) xs ≡ take i xs ++ x ∷ [] = rw (← at) at (take_more xs i x low) in
      ap (find p) t ∙ find-append p (take i xs) (x ∷ []) ∙ ap (λ (o : Option X). option_or o (cond (p x) (Some x) None)) none

  -- it doesn't pass
  pub none_yet : p x ≡ false → find p (take i xs) ≡ None → find p (take (i + 1) xs) ≡ None
  none_yet fails none = with_it none ∙ ap (λ b. cond b (Some x) None) fails

  -- it passes
  pub found_at : p x ≡ true → find p (take i xs) ≡ None → Some x ≡ find p xs
  found_at passes none =
      sym (ap (find p) (sym (take-append-drop (i + 1) xs)) ∙ find-append p (take (i + 1) xs) (drop (i + 1) xs)
      ∙ ap (λ (o : Option X). option_or o (find p (drop (i + 1) xs))) (with_it none ∙ ap (λ b. cond b (Some x) None) passes))
