-- The first place that passes a test.
use Rattle.std.proofs.Common.{◌≡◌, ℕ, ◌≤◌, Bool, true, false, cond, ltb, List, length, Option, Some, None, unwrap_or, refl, arith}
use Rattle.std.specs.List.{position_or_len}
use Rattle.std.proofs.lemmas.Bool.Decides.{nat_tests}
use Rattle.std.proofs.lemmas.List.Sums.{prefix_len-le-length}

-- the place that was found, or else the end, is the place or the end
place_or_end : (place end : ℕ) (here : Bool) → ltb place end ≡ here → place ≤ end → unwrap_or (cond here (Some place) None) end ≡ place
place_or_end place end true e h = refl
place_or_end place end false e h = grind (arith, nat_tests)

-- what a search for the first place found, or else the end of the list
pub first_or_end : {X : Type 0} (test : X → Bool) (xs : List X) (found : Option ℕ)
    → found ≡ cond (ltb (position_or_len test xs) (length xs)) (Some (position_or_len test xs)) None
    → unwrap_or found (length xs) ≡ position_or_len test xs
first_or_end test xs found e = rw e (place_or_end (position_or_len test xs) (length xs) (ltb (position_or_len test xs) (length xs)) refl (prefix_len-le-length _ xs))
