-- The pair that a word is read as spells that word.
use Rattle.std.proofs.Common.{◌≡◌, ℕ, ◌+◌, ◌<◌, Bool, true, false, cond, eqb, ltb, suc, List, [], ◌∷◌, ◌++◌, length, take, drop, Option, Some, None, Ok, Err, refl, ap, ◌∙◌, subst, arith}
use Rattle.std.specs.Prelude.{option_map, ◌==◌}
use Rattle.std.specs.List.{list_any, position_or_len}
use Rattle.std.proofs.lemmas.Bool.{or_parts, or_from, ltb-true, eqb-true}
use Rattle.crm_parse.specs.declared.pair.Kv.{Kv}
use Rattle.crm_parse.specs.declared.place.Place.{Place}
use Rattle.crm_parse.specs.Keys.{accepts, stray}
use Rattle.crm_parse.specs.Pairs.{kv_of, pair_of}
use Rattle.crm_parse.specs.Texts.{cut_at, byte_place}
use Rattle.crm_parse.proofs.Binds.{unless-ok}
use Rattle.faults.proofs.Steps.{bind-ok}

-- a choice that gives something
pub some-ok : {A : Type 0} (test : Bool) (x y : A) → cond test (Some x) None ≡ Some y → (y ≡ x) × (test ≡ true)
some-ok true x y e = (cc, refl)
some-ok false x y e = cc

-- the byte stands in the word
abbrev pub has : ℕ → List ℕ → Bool
has byte word = list_any (λ b. b == byte) word

module _ {X : Type 0} (p : X → Bool) where
  pub place-behind : (front : List X) (x : X) (back : List X) → list_any p front ≡ false → p x ≡ true → position_or_len p (front ++ x ∷ back) ≡ length front
  place-behind [] x back h e = rw e refl
  place-behind (y ∷ front) x back h e =
      let (one, rest) = or_parts (p y) (list_any p front) h in
      rw (one, place-behind front x back rest e) (omega arith)

  -- a list is cut at the first element that passes
  pub record Cut (xs front back : List X) : Type 0 where
    pub at : X
    pub passes : p at ≡ true
    pub whole : xs ≡ front ++ at ∷ back
    pub first : list_any p front ≡ false

  abbrev place : List X → ℕ
  place xs = position_or_len p xs

  cut-case : (x : X) (xs : List X) (here : Bool) → p x ≡ here → place (x ∷ xs) < length (x ∷ xs)
      → (place xs < length xs → Cut xs (take (place xs) xs) (drop (place xs + 1) xs)) → Cut (x ∷ xs) (take (place (x ∷ xs)) (x ∷ xs)) (drop (place (x ∷ xs) + 1) (x ∷ xs))
  cut-case x xs true e l h = rw e (record { at = x; passes = e; whole = refl; first = refl })
  cut-case x xs false e l h =
      let s : place (x ∷ xs) ≡ suc (place xs) = rw e (omega arith) in
      let t : suc (place xs) + 1 ≡ suc (place xs + 1) = omega arith in
      let k : place xs < length xs = omega (arith, s, l) in
      let c = h k in
      rw (s, t) (record { at = c.at; passes = c.passes; whole = ap (λ ys. x ∷ ys) c.whole; first = or_from (p x) (list_any p (take (place xs) xs)) e c.first })

  pub cut_first : (xs : List X) → place xs < length xs → Cut xs (take (place xs) xs) (drop (place xs + 1) xs)
  cut_first [] l = absurd (omega arith)
  cut_first (x ∷ xs) l = cut-case x xs (p x) refl l (cut_first xs)

map-some : {A B : Type 0} (f : A → B) (o : Option A) (y : B) → option_map f o ≡ Some y → (x : A) × (o ≡ Some x) × (f x ≡ y)
map-some f None y e = cc
map-some f (Some x) y e = (x, refl, cc)

-- a word that is cut is joined again
pub record Joined (byte : ℕ) (word key value : List ℕ) : Type 0 where
  pub whole : word ≡ key ++ byte ∷ value
  pub lacks : has byte key ≡ false

pub cut_at-some : (byte : ℕ) (word : List ℕ) (parts : List ℕ × List ℕ) → cut_at byte word ≡ Some parts → Joined byte word parts.0 parts.1
cut_at-some byte word parts e =
    let test = λ (b : ℕ). b == byte in
    let (place, found, same) = map-some (λ (place : ℕ). (take place word, drop (place + 1) word)) (byte_place byte word) parts e in
    let (there, below) = some-ok (ltb (position_or_len test word) (length word)) (position_or_len test word) place found in
    let c = cut_first test word (ltb-true _ _ below) in
    let at : c.at ≡ byte = eqb-true c.at byte c.passes in
    let n = position_or_len test word in
    let whole : word ≡ take n word ++ byte ∷ drop (n + 1) word = c.whole ∙ ap (λ (b : ℕ). take n word ++ b ∷ drop (n + 1) word) at in
    let joined : Joined byte word (take place word) (drop (place + 1) word) = rw there (record { whole = whole; lacks = c.first }) in
    subst (λ (ps : List ℕ × List ℕ). Joined byte word ps.0 ps.1) same joined

-- the word of a pair
abbrev pub pair_word : Kv → List ℕ
pair_word kv = kv.key ++ 61 ∷ kv.value

-- a word that is cut into a pair has a key
pair-case : (place : Place) (word : List ℕ) (found : Option (List ℕ × List ℕ)) (parts : List ℕ × List ℕ) → cut_at 61 word ≡ found → pair_of place word ≡ Ok parts
    → (cut_at 61 word ≡ Some parts) × ((length parts.0 == 0) ≡ false)
pair-case place word None parts f e = let h : Err (stray place word) ≡ Ok parts = rw (f, pair_of) at e in cc
pair-case place word (Some found) parts f e =
    let h : cond (eqb (length found.0) 0) (Err (stray place word)) (Ok found) ≡ Ok parts = rw (f, pair_of) at e in
    let (same, some) = unless-ok (eqb (length found.0) 0) (Ok found) parts (stray place word) h in
    let s : found ≡ parts = cc in
    (f ∙ ap Some s, subst (λ (p : List ℕ × List ℕ). (length p.0 == 0) ≡ false) s some)

-- the parts of a word that is cut into a pair
pub record PairParts (word key value : List ℕ) : Type 0 where
  pub joined : Joined 61 word key value
  pub some : (length key == 0) ≡ false

pub pair_of-parts : (place : Place) (word : List ℕ) (parts : List ℕ × List ℕ) → pair_of place word ≡ Ok parts → PairParts word parts.0 parts.1
pair_of-parts place word parts e =
    let (at, some) = pair-case place word (cut_at 61 word) parts refl e in
    record { joined = cut_at-some 61 word parts at; some = some }

-- what is read of a word spells it
pub kv_of-word : (place : Place) (word : List ℕ) (kv : Kv) → kv_of place word ≡ Ok kv → word ≡ pair_word kv
unfolding kv_of
kv_of-word place word kv e =
    let (parts, cut, taken) = bind-ok (pair_of place word) _ kv e in
    let (done, is_taken, last) = bind-ok (accepts place parts.0 parts.1) _ kv taken in
    let made : Kv = record { key = parts.0; value = parts.1 } in
    let same : made ≡ kv = cc in
    (pair_of-parts place word parts cut).joined.whole ∙ ap pair_word same
