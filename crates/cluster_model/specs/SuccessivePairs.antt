-- The successive pairs of a list: each element with the one before it.
use Rattle.std.specs.Prelude.{List, [], ◌∷◌}

module _ {A : Type 0} where
  -- those of an element and what comes after it
  abbrev pub pairs_after : A → List A → List (A × A)
  pairs_after before [] = []
  pairs_after before (x ∷ xs) = (before, x) ∷ pairs_after x xs

  abbrev pub successive : List A → List (A × A)
  successive [] = []
  successive (x ∷ xs) = pairs_after x xs
