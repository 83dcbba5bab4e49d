-- What is made of the members of a list, where two functions agree on them.
use Rattle.std.proofs.Common.{◌≡◌, List, [], ◌∷◌, map, refl, Contains}
use Rattle.lemmas.proofs.Members.{at_head, in_rest}

pub map-on : {X Y : Type 0} (f g : X → Y) (xs : List X) → ((x : X) → Contains xs x → f x ≡ g x) → map f xs ≡ map g xs
map-on f g [] same = refl
map-on f g (x ∷ xs) same =
    let first = same x (at_head x xs x refl) in
    let rest = map-on f g xs (λ y h. same y (in_rest x xs y h)) in
    rw (first, rest) refl
