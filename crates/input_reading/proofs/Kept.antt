-- The first words of a line say at their places what all its words say.
use Rattle.std.proofs.Common.{◌≡◌, ℕ, ◌<◌, zero, suc, List, [], ◌∷◌, take, refl, arith}
use Rattle.std.specs.List.{slice_get}

pub get_within : {X : Type 0} (n place : ℕ) (xs : List X) → place < n → slice_get (take n xs) place ≡ slice_get xs place
get_within zero place xs h = absurd (omega (arith, h))
get_within (suc n) place [] h = refl
get_within (suc n) zero (x ∷ xs) h = refl
get_within (suc n) (suc place) (x ∷ xs) h = get_within n place xs (omega (arith, h))
