-- In a list in an order, one stands before another exactly where it comes before it.
use Rattle.std.proofs.Common.{arith, ◌≡◌, ◌⊎◌, inl, inr, ℕ, List, [], ◌∷◌, AllPairs, Contains, sym, subst, ◌∙◌}
use Rattle.lemmas.proofs.Members.{head_or_rest}
use Rattle.lemmas.proofs.Ordered.{first_earlier, rest_in_order}
use Rattle.planner.specs.Chains.{StandsBefore, here, later}

module _ (Comes : ℕ → ℕ → Type 0) (strict : (x y : ℕ) → Comes x y → Comes y x → ⊥) where
  pub stands_comes : (x y : ℕ) (places : List ℕ) → AllPairs Comes places → StandsBefore x y places → Comes x y
  stands_comes x y _ h (here ps c) = first_earlier Comes x ps y h c
  stands_comes x y _ h (later p ps b) = stands_comes x y ps (rest_in_order Comes p ps h) b

  pub comes_stands : (x y : ℕ) (places : List ℕ) → AllPairs Comes places → Contains places x → Contains places y → Comes x y → StandsBefore x y places
  comes_stands x y [] h (k, l, e) d r = absurd (omega arith)
  comes_stands x y (p ∷ ps) h c d r =
      go (head_or_rest p ps x c) (head_or_rest p ps y d) (λ c d. comes_stands x y ps (rest_in_order Comes p ps h) c d r)
    where
      go : (p ≡ x) ⊎ Contains ps x → (p ≡ y) ⊎ Contains ps y → (Contains ps x → Contains ps y → StandsBefore x y ps) → StandsBefore x y (p ∷ ps)
      go (inl e) (inl f) g = absurd (let itself : Comes x x = subst (λ v. Comes x v) (sym f ∙ e) r in strict x x itself itself)
      go (inl e) (inr m) g = subst (λ v. StandsBefore x y (v ∷ ps)) (sym e) (here ps m)
      go (inr m) (inl f) g = absurd (let back : Comes y x = subst (λ v. Comes v x) f (first_earlier Comes p ps x h m) in strict x y r back)
      go (inr m) (inr n) g = later p ps (g m n)
