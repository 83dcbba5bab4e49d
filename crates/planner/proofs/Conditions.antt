-- Lists that are there on one condition.
use Rattle.std.proofs.Common.{◌≡◌, Bool, true, false, if◌then◌else◌, List, [], ◌∷◌, refl, inl, inr, Contains}
use Rattle.lemmas.proofs.Members.{head_or_rest, in_none}

module _ {X : Type 0} where
  -- what stands in a list that is there on a condition
  pub record There (b : Bool) (xs : List X) (x : X) : Type 0 where
    pub holds : b ≡ true
    pub among : Contains xs x

  pub of_if : (b : Bool) (xs : List X) (x : X) → Contains (if b then xs else []) x → There b xs x
  of_if true xs x h = record { holds = refl; among = h }
  of_if false xs x h = absurd (in_none x h)

  -- the same, of the contrary
  pub record Otherwise (b : Bool) (xs : List X) (x : X) : Type 0 where
    pub fails : b ≡ false
    pub among : Contains xs x

  pub of_unless : (b : Bool) (xs : List X) (x : X) → Contains (if b then [] else xs) x → Otherwise b xs x
  of_unless true xs x h = absurd (in_none x h)
  of_unless false xs x h = record { fails = refl; among = h }

  pub in_unless : (b : Bool) (xs : List X) (x : X) → b ≡ false → Contains xs x → Contains (if b then [] else xs) x
  in_unless true xs x e h = cc
  in_unless false xs x e h = h

  pub of_one : (x y : X) → Contains (x ∷ []) y → x ≡ y
  of_one x y h = elim (head_or_rest x [] y h) [ inl e ↦ e | inr none ↦ absurd (in_none y none) ]
