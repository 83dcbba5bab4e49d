-- The place of a name is that of the first which has it.
use Rattle.std.proofs.Common.{◌≡◌, ℕ, ◌+◌, ◌<◌, suc, Bool, true, false, cond, ltb, List, [], ◌∷◌, ◌++◌, length, position, Some, None, refl, sym, ap, ◌∙◌, subst, arith}
use Rattle.std.specs.List.{AllByRecursion, position_or_len}
use Rattle.std.proofs.lemmas.Bool.{false_from_ne_true, false≢true}
use Rattle.std.proofs.lemmas.Bool.Decides.{nat_tests}
use Rattle.crm_lex.specs.Names.{is}
use Rattle.crm_parse.proofs.Binds.{is-same, is-true}
use Rattle.input_reading.specs.Grammar.WordValues.{IsNamed}

module _ {X : Type 0} (name_of : X → List ℕ) (word : List ℕ) where
  abbrev has_name : X → Bool
  has_name x = is (name_of x) word

  within-case : (place many found : ℕ) (test : Bool) → ltb found many ≡ test → cond test (Some found) None ≡ Some place → (found ≡ place) × (place < many)
  within-case place many found false t e = cc
  within-case place many found true t e = let same : found ≡ place = cc in (same, grind (arith, nat_tests))

  within : (xs : List X) (place : ℕ) → position has_name xs ≡ Some place → (position_or_len has_name xs ≡ place) × (place < length xs)
  within xs place e = within-case place (length xs) (position_or_len has_name xs) (ltb (position_or_len has_name xs) (length xs)) refl e

  named-later : (x : X) (xs : List X) (before : ℕ) → has_name x ≡ false → IsNamed name_of xs word before → IsNamed name_of (x ∷ xs) word (suc before)
  named-later x xs before h n = record {
    front = x ∷ n.front;
    one = n.one;
    behind = n.behind;
    whole = ap (λ ys. x ∷ ys) n.whole;
    many = ap suc n.many;
    name = n.name;
    no_other = (λ same. false≢true (sym h ∙ subst (λ w. is (name_of x) w ≡ true) same (is-same (name_of x))), n.no_other);
  }

  named-case : (x : X) (xs : List X) (place : ℕ) (test : Bool) → has_name x ≡ test
      → ((before : ℕ) → position_or_len has_name xs ≡ before → before < length xs → IsNamed name_of xs word before)
      → position_or_len has_name (x ∷ xs) ≡ place → place < length (x ∷ xs) → IsNamed name_of (x ∷ xs) word place
  named-case x xs place true h more e few =
      let same : 0 ≡ place = rw h at e in
      record { front = []; one = x; behind = xs; whole = refl; many = same; name = is-true (name_of x) word h; no_other = tt }
  named-case x xs place false h more e few =
      let at : 1 + position_or_len has_name xs ≡ place = rw h at e in
      let same : suc (position_or_len has_name xs) ≡ place = omega (arith, at) in
      subst (IsNamed name_of (x ∷ xs) word) same (named-later x xs (position_or_len has_name xs) h (more (position_or_len has_name xs) refl (omega (arith, at, few))))

  by-place : (xs : List X) (place : ℕ) → position_or_len has_name xs ≡ place → place < length xs → IsNamed name_of xs word place
  by-place [] place e few = absurd (omega (arith, few))
  by-place (x ∷ xs) place e few = named-case x xs place (has_name x) refl (λ before h k. by-place xs before h k) e few

  -- what is found by a name has it first
  pub name-said : (xs : List X) (place : ℕ) → position has_name xs ≡ Some place → IsNamed name_of xs word place
  name-said xs place e = let h = within xs place e in by-place xs place h.0 h.1

  first-place : (front : List X) (one : X) (behind : List X) → AllByRecursion (λ x. name_of x ≡ word → ⊥) front → name_of one ≡ word
      → position_or_len has_name (front ++ one ∷ behind) ≡ length front
  first-place [] one behind none name =
      let h : has_name one ≡ true = subst (λ w. is (name_of one) w ≡ true) name (is-same (name_of one)) in
      rw h refl
  first-place (x ∷ front) one behind none name =
      let h : has_name x ≡ false = false_from_ne_true (has_name x) (λ same. none.0 (is-true (name_of x) word same)) in
      let more = first-place front one behind none.1 name in
      rw h (omega (arith, more))

  first-within : (front : List X) (one : X) (behind : List X) → length front < length (front ++ one ∷ behind)
  first-within [] one behind = omega arith
  first-within (x ∷ front) one behind = let h = first-within front one behind in omega (arith, h)

  found-at : (xs : List X) (place : ℕ) → position_or_len has_name xs ≡ place → place < length xs → position has_name xs ≡ Some place
  found-at xs place e few =
      let h : ltb (position_or_len has_name xs) (length xs) ≡ true = grind (arith, nat_tests) in
      rw h (ap Some e)

  -- and the first that has a name is found by it
  pub name-read : (xs : List X) (place : ℕ) → IsNamed name_of xs word place → position has_name xs ≡ Some place
  name-read xs place n =
      let at = first-place n.front n.one n.behind n.no_other n.name in
      let few = first-within n.front n.one n.behind in
      subst (λ ys. position has_name ys ≡ Some place) (sym n.whole)
      (subst (λ p. position has_name (n.front ++ n.one ∷ n.behind) ≡ Some p) n.many (found-at (n.front ++ n.one ∷ n.behind) (length n.front) at few))
