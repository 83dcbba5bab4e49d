-- The kind of an order, by its word.
use Rattle.std.proofs.Common.{arith, ◌≡◌, ◌⊎◌, inl, inr, ◌+◌, ℕ, ℤ, pos, int_lt, Bool, true, false, cond, List, [], ◌∷◌, Option, Some, None, Ok, Err, refl, sym, ap, ◌∙◌, subst}
use Rattle.std.specs.Prelude.{codes}
use Rattle.std.specs.Char.{to_ascii_lowercase}
use Rattle.std.proofs.lemmas.Bool.{and_parts, eqb-true, false_from_ne_true}
use Rattle.std.proofs.lemmas.Bool.Decides.{nat_tests}
use Rattle.std.proofs.lemmas.Int.{ints}
use Rattle.std.specs.Option.{ok_or}
use Rattle.score.specs.ScoreText.{read_score}
use Rattle.crm_parse.specs.declared.fault.ParseCause.TheVariants.{BadScore, BadValue}
use Rattle.crm_parse.specs.declared.words.KindWord.{KindWord}
use Rattle.crm_parse.specs.declared.words.KindWord.TheVariants.{Mandatory, Optional}
use Rattle.crm_parse.specs.Order.{kind_by_score, kind_by_word}
use Rattle.crm_parse.specs.Values.{kind_of, says}
use Rattle.faults.specs.Reading.{◌>>=◌}
use Rattle.faults.proofs.Steps.{bind-ok}
use Rattle.crm_parse.proofs.Binds.{ok_or-ok}
use Rattle.crm_parse.proofs.ScoreRead.{score-none}
use Rattle.crm_parse.specs.Grammar.OrderForm.{KindSays, kind_by_name, score_above_0, score_of_0}

is_zero : (points : ℤ) → int_lt points (pos 0) ≡ false → int_lt (pos 0) points ≡ false → points ≡ pos 0
is_zero points b a = grind (arith, ints)

score-case : (text : List ℕ) (points : ℤ) (kind : KindWord) (below above : Bool) → read_score text ≡ Some points → int_lt points (pos 0) ≡ below
    → int_lt (pos 0) points ≡ above → cond below (Err BadScore) (cond above (Ok Mandatory) (Ok Optional)) ≡ Ok kind → KindSays text kind
score-case text points kind true above s b a e = cc
score-case text points kind false true s b a e = let k : Mandatory ≡ kind = cc in subst (KindSays text) k (score_above_0 text points s a)
score-case text points kind false false s b a e =
    let k : Optional ≡ kind = cc in
    subst (KindSays text) k (score_of_0 text (s ∙ ap Some (is_zero points b a)))

kind-case : (text : List ℕ) (found : Option KindWord) (kind : KindWord) → kind_of text ≡ found → kind_by_word text ≡ Ok kind → KindSays text kind
unfolding kind_by_word
kind-case text None kind f e =
    let h : (ok_or (read_score text) BadValue >>= (λ points. kind_by_score points)) ≡ Ok kind = rw (f, kind_by_word) at e in
    let (points, scored, last) = bind-ok (ok_or (read_score text) BadValue) (λ points. kind_by_score points) kind h in
    score-case text points kind (int_lt points (pos 0)) (int_lt (pos 0) points) (ok_or-ok (read_score text) BadValue points scored) refl refl last
kind-case text (Some named) kind f e =
    let h : Ok named ≡ Ok kind = rw (f, kind_by_word) at e in
    kind_by_name text kind (f ∙ (cc))

-- what is read as a kind says it
pub kind-said : (text : List ℕ) (kind : KindWord) → kind_by_word text ≡ Ok kind → KindSays text kind
kind-said text kind e = kind-case text (kind_of text) kind refl e

-- a letter of either case
lower-case : (b low : ℕ) → to_ascii_lowercase b ≡ low → (b ≡ low) ⊎ (b + 32 ≡ low)
lower-case b low e = grind (arith, nat_tests)

same-first : (b : ℕ) (bs : List ℕ) (c : ℕ) (cs : List ℕ) → says (b ∷ bs) (c ∷ cs) ≡ true → to_ascii_lowercase b ≡ to_ascii_lowercase c
same-first b bs c cs e = eqb-true _ _ (and_parts _ _ e).0

-- a word that begins with this letter, in either case, is no score
module _ (low upper : ℕ) (is_upper : upper + 32 ≡ low) (lower_none : (text : List ℕ) → read_score (low ∷ text) ≡ None)
    (upper_none : (text : List ℕ) → read_score (upper ∷ text) ≡ None) where
  by-case : (b : ℕ) (bs : List ℕ) → (b ≡ low) ⊎ (b + 32 ≡ low) → read_score (b ∷ bs) ≡ None
  by-case b bs (inl e) = subst (λ c. read_score (c ∷ bs) ≡ None) (sym e) (lower_none bs)
  by-case b bs (inr e) = let s : upper ≡ b = omega (arith, e, is_upper) in subst (λ c. read_score (c ∷ bs) ≡ None) s (upper_none bs)

  no_name : (text : List ℕ) (cs : List ℕ) (points : ℤ) → read_score text ≡ Some points → to_ascii_lowercase low ≡ low → says text (low ∷ cs) ≡ false
  no_name [] cs points e l = refl
  no_name (b ∷ bs) cs points e l = false_from_ne_true _ (λ h.
      let none : read_score (b ∷ bs) ≡ None = by-case b bs (lower-case b low (same-first b bs low cs h ∙ l)) in
      let f : None ≡ Some points = sym none ∙ e in
      cc)

-- no score is a kind's name
score-no_kind : (text : List ℕ) (points : ℤ) → read_score text ≡ Some points → kind_of text ≡ None
score-no_kind text points e = rw (
  no_name 109 77 refl (score-none 109 refl (λ t. refl) (λ t. refl)) (score-none 77 refl (λ t. refl) (λ t. refl)) text (codes "andatory") points e refl,
  no_name 111 79 refl (score-none 111 refl (λ t. refl) (λ t. refl)) (score-none 79 refl (λ t. refl) (λ t. refl)) text (codes "ptional") points e refl,
  no_name 115 83 refl (score-none 115 refl (λ t. refl) (λ t. refl)) (score-none 83 refl (λ t. refl) (λ t. refl)) text (codes "erialize") points e refl,
) refl

above-read : (points : ℤ) → int_lt (pos 0) points ≡ true → kind_by_score points ≡ Ok Mandatory
above-read points a = let b : int_lt points (pos 0) ≡ false = grind (arith, ints) in rw (b, a) refl

-- and what says a kind is read as it
pub kind-read : (text : List ℕ) (kind : KindWord) → KindSays text kind → kind_by_word text ≡ Ok kind
unfolding kind_by_word
kind-read t k (kind_by_name text kind h) = rw (kind_by_word, h) refl
kind-read t k (score_above_0 text points h a) = rw (kind_by_word, score-no_kind text points h, h) (above-read points a)
kind-read t k (score_of_0 text h) = rw (kind_by_word, score-no_kind text (pos 0) h, h) refl
