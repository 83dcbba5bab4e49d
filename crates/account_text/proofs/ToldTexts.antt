-- Lines of parts, put together.
use Rattle.std.proofs.Common.{◌≡◌, ℕ, Bool, true, false, ◌&&◌, cond, List, [], ◌∷◌, ◌++◌, map, filter, refl, sym, ap, ◌∙◌}
use Rattle.std.specs.Borrow.{Bor}
use Rattle.std.specs.List.{flat_map}
use Rattle.std.proofs.lemmas.Grind.{flat_map-append}
use Rattle.std.proofs.lemmas.List.{append_assoc, append-nil}
use Rattle.std.proofs.lemmas.List.Elements.{filter-append}
use Rattle.cluster_types.specs.declared.cluster.Cluster.{Cluster}
use Rattle.decision_account.specs.Accounts.{part_text}
use Rattle.decision_account.specs.Parts.{ScorePart, is_told, without_zeros}
use Rattle.account_text.specs.Inner.Sources.{lent_values}
use Rattle.account_text.specs.Inner.PartsByStates.{part_where, parts_text}

-- what is lent, one by one
pub lent_map : {X Y : Type 0} (f : X → List Y) (all : List (Bor X)) → flat_map (λ x. f x.now) all ≡ flat_map f (lent_values all)
lent_map f [] = refl
lent_map f (x ∷ xs) = ap (λ ys. f x.now ++ ys) (lent_map f xs)

module _ (c : Cluster) (cell : List ℕ) where
  pub parts-append : (xs ys : List ScorePart) → parts_text c cell (xs ++ ys) ≡ parts_text c cell xs ++ parts_text c cell ys
  parts-append xs ys =
      ap (flat_map (part_text c cell)) (filter-append is_told xs ys) ∙ flat_map-append (part_text c cell) (without_zeros xs) (without_zeros ys)

  -- of lists of parts
  pub parts_of_all : {X : Type 0} (f : X → List ScorePart) (xs : List X) → flat_map (λ x. parts_text c cell (f x)) xs ≡ parts_text c cell (flat_map f xs)
  parts_of_all f [] = refl
  parts_of_all f (x ∷ xs) = ap (λ t. parts_text c cell (f x) ++ t) (parts_of_all f xs) ∙ sym (parts-append (f x) (flat_map f xs))

  -- the parts of those that pass, tested one by one among some that were picked before
  pub picked : {X : Type 0} (p q w : X → Bool) (g : X → ScorePart) → ((x : X) → (p x && q x) ≡ w x) → (xs : List X)
      → flat_map (λ x. parts_text c cell (part_where (q x) (g x))) (filter p xs) ≡ parts_text c cell (map g (filter w xs))
  picked p q w g same [] = refl
  picked {X = X} p q w g same (x ∷ xs) = go (p x) refl (q x) refl (picked p q w g same xs)
    where
      go : (a : Bool) → p x ≡ a → (b : Bool) → q x ≡ b
          → flat_map (λ (x : X). parts_text c cell (part_where (q x) (g x))) (filter p xs) ≡ parts_text c cell (map g (filter w xs))
          → flat_map (λ (x : X). parts_text c cell (part_where (q x) (g x))) (cond a (x ∷ filter p xs) (filter p xs))
          ≡ parts_text c cell (map g (cond (w x) (x ∷ filter w xs) (filter w xs)))
      go true e true f rest =
          let at : w x ≡ true = sym (same x) ∙ rw (e, f) refl in
          rw (at, f) (ap (λ t. parts_text c cell (g x ∷ []) ++ t) rest ∙ sym (parts-append (g x ∷ []) (map g (filter w xs))))
      go true e false f rest =
          let at : w x ≡ false = sym (same x) ∙ rw (e, f) refl in
          rw (at, f) rest
      go false e b f rest =
          let at : w x ≡ false = sym (same x) ∙ rw e refl in
          rw at rest

  -- texts that grow by the lines of two and of four lists of parts
  pub two_more : (old one two : List ℕ) (a b : List ScorePart) → one ≡ old ++ parts_text c cell a → two ≡ one ++ parts_text c cell b
      → two ≡ old ++ parts_text c cell (a ++ b)
  two_more old one two a b first second =
      second ∙ ap (λ t. t ++ parts_text c cell b) first ∙ append_assoc old (parts_text c cell a) (parts_text c cell b)
      ∙ ap (λ t. old ++ t) (sym (parts-append a b))

  pub four_more : (old one two three four : List ℕ) (a b d e : List ScorePart) → one ≡ old ++ parts_text c cell a → two ≡ one ++ parts_text c cell b
      → three ≡ two ++ parts_text c cell d → four ≡ three ++ parts_text c cell e → four ≡ old ++ parts_text c cell (a ++ b ++ d ++ e)
  four_more old one two three four a b d e first second third fourth =
      two_more old three four (a ++ b ++ d) e (two_more old two three (a ++ b) d (two_more old one two a b first second) third) fourth

-- a part that is told, and one that isn't
module _ (c : Cluster) (cell : List ℕ) (part : ScorePart) (old new : List ℕ) where
  pub told_part : is_told part ≡ true → new ≡ old ++ part_text c cell part → new ≡ old ++ parts_text c cell (part_where true part)
  told_part is push = rw is (push ∙ ap (λ t. old ++ t) (sym (append-nil (part_text c cell part))))

  pub zero_part : (counts : Bool) → is_told part ≡ false → new ≡ old → new ≡ old ++ parts_text c cell (part_where counts part)
  zero_part true is push = rw is (push ∙ sym (append-nil old))
  zero_part false is push = push ∙ sym (append-nil old)

  pub no_part : new ≡ old → new ≡ old ++ parts_text c cell (part_where false part)
  no_part push = push ∙ sym (append-nil old)
