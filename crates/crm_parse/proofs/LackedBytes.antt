-- Names and words that lack a byte.
use Rattle.std.proofs.Common.{◌≡◌, ℕ, Bool, true, false, eqb, List, ◌∷◌, ◌++◌, None, refl, sym, ap, ◌∙◌, append_assoc, []}
use Rattle.std.specs.List.{list_all}
use Rattle.std.proofs.lemmas.Bool.{and_parts, or_from, or_parts, eqb-true, false≢true, false_from_ne_true}
use Rattle.crm_lex.specs.Names.{is_name, is_name_byte}
use Rattle.crm_parse.specs.Texts.{after, cut_at}
use Rattle.crm_parse.proofs.Affixes.{after-some, none_by}
use Rattle.crm_parse.proofs.PairWords.{cut_at-some, has}
use Rattle.crm_parse.proofs.PairsAgain.{has-middle}

byte-case : (p : ℕ → Bool) (b x : ℕ) (xs : List ℕ) → p b ≡ false → p x ≡ true → has b xs ≡ false → has b (x ∷ xs) ≡ false
byte-case p b x xs n h e =
    let differs : eqb x b ≡ false = false_from_ne_true (eqb x b) (λ same. false≢true (sym n ∙ (ap p (sym (eqb-true x b same)) ∙ h))) in
    or_from (eqb x b) (has b xs) differs e

-- a text of some bytes has no other
pub lacks_byte : (p : ℕ → Bool) (b : ℕ) (xs : List ℕ) → p b ≡ false → list_all p xs ≡ true → has b xs ≡ false
lacks_byte p b [] n h = refl
lacks_byte p b (x ∷ xs) n h = let (one, rest) = and_parts (p x) (list_all p xs) h in byte-case p b x xs n one (lacks_byte p b xs n rest)

pub name-lacks : (b : ℕ) (name : List ℕ) → is_name_byte b ≡ false → is_name name ≡ true → has b name ≡ false
name-lacks b name n h = lacks_byte is_name_byte b name n (and_parts _ _ h).1

pub has-append : (b : ℕ) (xs ys : List ℕ) → has b xs ≡ false → has b ys ≡ false → has b (xs ++ ys) ≡ false
has-append b [] ys h k = k
has-append b (x ∷ xs) ys h k = let (one, rest) = or_parts (eqb x b) (has b xs) h in or_from (eqb x b) (has b (xs ++ ys)) one (has-append b xs ys rest k)

-- a text without a byte isn't cut at it
pub cut_at-none : (b : ℕ) (word : List ℕ) → has b word ≡ false → cut_at b word ≡ None
cut_at-none b word h = none_by (cut_at b word) (λ parts e. let j = cut_at-some b word parts e in
    false≢true (sym h ∙ (ap (has b) j.whole ∙ has-middle b parts.0 parts.1)))

-- and begins with no label that has it
pub no_label : (b : ℕ) (front back word : List ℕ) → has b word ≡ false → after (front ++ b ∷ back) word ≡ None
no_label b front back word h = none_by (after (front ++ b ∷ back) word) (λ rest e.
    false≢true (sym h ∙ (ap (has b) (after-some (front ++ b ∷ back) word rest e ∙ append_assoc front (b ∷ back) rest) ∙ has-middle b front (back ++ rest))))
