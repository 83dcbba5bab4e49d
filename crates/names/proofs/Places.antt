-- The place of a name among the names of a list.
use Rattle.std.proofs.Common.{◌≡◌, ℕ, ◌+◌, Bool, not, cond, List, [], ◌∷◌, map, position, refl, ap, ◌∙◌}
use Rattle.std.specs.List.{position_or_len}
use Rattle.std.proofs.lemmas.Cmp.{nat_list_eq_equiv}
use Rattle.std.proofs.lemmas.List.{length-map}
use Rattle.crm_lex.specs.Names.{is}

module _ {X Y : Type 0} (f : X → Y) (test : Y → Bool) where
  place-map : (xs : List X) → position_or_len test (map f xs) ≡ position_or_len (λ x. test (f x)) xs
  place-map [] = refl
  place-map (x ∷ xs) = ap (λ n. cond (not (test (f x))) (1 + n) 0) (place-map xs)

  -- the first of a list that stands for what passes
  pub position_map : (xs : List X) → position test (map f xs) ≡ position (λ x. test (f x)) xs
  position_map xs = rw (place-map xs, length-map xs f) refl

-- the place of a name among those of a list
pub place_of_name : {X : Type 0} (name_of : X → List ℕ) (xs : List X) (names : List (List ℕ)) (word : List ℕ)
    → names ≡ map name_of xs → position (is word) names ≡ position (λ x. is (name_of x) word) xs
place_of_name name_of xs names word e =
    ap (position (is word)) e ∙ position_map name_of (is word) xs ∙ ap (λ test. position test xs) (λ j x. nat_list_eq_equiv.symm word (name_of x) j)
