-- Which names a set has.
use Rattle.std.specs.Prelude.{◌≡◌, ◌||◌, ℕ, nat_eq, Bool, List}
use Rattle.std.specs.Cmp.Lexicographic.{pointwise}
use Rattle.std.specs.List.{list_any}

-- the set has this name
abbrev pub has_name : List (List ℕ) → List ℕ → Bool
has_name names name = list_any (λ each. pointwise nat_eq each name) names

-- the set with one more name
abbrev pub IsWithName : List (List ℕ) → List ℕ → List (List ℕ) → Type 0
IsWithName old name new = (each : List ℕ) → has_name new each ≡ (has_name old each || pointwise nat_eq name each)
