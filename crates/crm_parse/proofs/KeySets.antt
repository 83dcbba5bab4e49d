-- One more key.
use Rattle.std.proofs.Common.{◌≡◌, ℕ, Bool, true, false, ◌&&◌, ◌||◌, List, [], ◌∷◌, refl}
use Rattle.std.specs.List.{list_any}
use Rattle.crm_lex.specs.Names.{is}
use Rattle.crm_parse.specs.declared.pair.Kv.{Kv}
use Rattle.crm_parse.specs.declared.place.Place.{Place}
use Rattle.crm_parse.specs.Keys.{is_clone_meta, is_promoted_max}
use Rattle.crm_parse.specs.Pairs.{is_same_key}

either_one : (a b p q r s : Bool) → ((p || a && q && b) || (r || a && b && s)) ≡ ((p || r) || a && b && (q || s))
either_one false b true q r s = refl
either_one false b false q true s = refl
either_one false b false q false s = refl
either_one true false true q r s = refl
either_one true false false true r s = refl
either_one true false false false r s = refl
either_one true true true q r s = refl
either_one true true false true true s = refl
either_one true true false true false s = refl
either_one true true false false r s = refl

neither : (a b : Bool) → false ≡ (false || a && b && false)
neither false b = refl
neither true false = refl
neither true true = refl

any_either : {X : Type 0} (test other : X → Bool) (a b : Bool) (xs : List X)
    → list_any (λ x. test x || a && other x && b) xs ≡ (list_any test xs || a && b && list_any other xs)
any_either test other a b [] = neither a b
any_either test other a b (x ∷ xs) = rw (any_either test other a b xs) (either_one a b (test x) (other x) (list_any test xs) (list_any other xs))

-- a pair has the same key where one has this key, or both say how many copies of a clone may be promoted
pub any_same_key : (place : Place) (key : List ℕ) (pairs : List Kv)
    → list_any (λ pair. is_same_key place pair.key key) pairs
    ≡ (list_any (λ pair. is pair.key key) pairs || is_clone_meta place && is_promoted_max key && list_any (λ pair. is_promoted_max pair.key) pairs)
any_same_key place key pairs = any_either (λ pair. is pair.key key) (λ pair. is_promoted_max pair.key) (is_clone_meta place) (is_promoted_max key) pairs

pub found_key : (place : Place) (key : List ℕ) (pairs : List Kv) (found : Bool)
    → found ≡ list_any (λ pair. is pair.key key) pairs → found ≡ true → found ≡ list_any (λ pair. is_same_key place pair.key key) pairs
found_key place key pairs found e is_there = rw (any_same_key place key pairs, ← e, is_there) refl

pub other_key : (place : Place) (key : List ℕ) (pairs : List Kv) (found promoted_max : Bool)
    → found ≡ list_any (λ pair. is pair.key key) pairs → found ≡ false → promoted_max ≡ list_any (λ pair. is_promoted_max pair.key) pairs
    → (is_clone_meta place && is_promoted_max key && promoted_max) ≡ list_any (λ pair. is_same_key place pair.key key) pairs
other_key place key pairs found promoted_max e is_absent p = rw (any_same_key place key pairs, ← e, is_absent, p) refl
