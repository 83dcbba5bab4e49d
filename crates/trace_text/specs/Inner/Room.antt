-- What is kept of bytes that are put in turn, where there is room for so many (follows from the definition of `take`).
use Rattle.std.specs.Prelude.{◌≡◌, ℕ, zero, suc, List, [], ◌∷◌, ◌++◌, take, refl}
use Rattle.std.proofs.Common.{ap, ◌∙◌}
use Rattle.std.proofs.lemmas.List.{append_assoc}

take_again : (room : ℕ) (xs ys : List ℕ) → take room (take room xs ++ ys) ≡ take room (xs ++ ys)
take_again zero xs ys = refl
take_again (suc room) [] ys = refl
take_again (suc room) (x ∷ xs) ys = ap (λ (zs : List ℕ). x ∷ zs) (take_again room xs ys)

pub taken_in_turn : (room : ℕ) (old first then : List ℕ) → take room (take room (old ++ first) ++ then) ≡ take room (old ++ (first ++ then))
taken_in_turn room old first then = take_again room (old ++ first) then ∙ ap (take room) (append_assoc old first then)
