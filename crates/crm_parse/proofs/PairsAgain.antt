-- The word of a pair, and those of a section, are read again.
use Rattle.std.proofs.Common.{◌≡◌, ℕ, true, false, eqb, ltb, List, [], ◌∷◌, ◌++◌, length, Some, Ok, refl, sym, ap, ◌∙◌, subst, arith}
use Rattle.std.specs.Prelude.{◌==◌, codes}
use Rattle.std.specs.List.{position_or_len}
use Rattle.std.proofs.Math.Seq.{take-append_seam, drop-append-add}
use Rattle.std.proofs.lemmas.List.{length-append}
use Rattle.std.proofs.lemmas.Bool.{or_left, or_right, false≢true, false_from_ne_true, lt-ltb, eq-eqb}
use Rattle.crm_lex.specs.Names.{is}
use Rattle.crm_parse.specs.declared.pair.Kv.{Kv}
use Rattle.crm_parse.specs.declared.place.Place.{Place}
use Rattle.crm_parse.specs.Pairs.{with_section}
use Rattle.crm_parse.specs.Texts.{cut_at}
use Rattle.crm_parse.proofs.PairWords.{pair_word, has, place-behind}
use Rattle.crm_parse.proofs.Binds.{is-true}
use Rattle.crm_parse.proofs.PairLists.{pair_words, Kept}

-- a word is cut where it was joined
pub cut_at-again : (byte : ℕ) (key value : List ℕ) → has byte key ≡ false → cut_at byte (key ++ byte ∷ value) ≡ Some (key, value)
cut_at-again byte key value h =
    let n : position_or_len (λ b. b == byte) (key ++ byte ∷ value) ≡ length key = place-behind (λ b. b == byte) key byte value h (eq-eqb byte byte refl) in
    let l : ltb (length key) (length (key ++ byte ∷ value)) ≡ true = lt-ltb _ _ (omega (arith, length-append key (byte ∷ value))) in
    rw (n, l, take-append_seam key (byte ∷ value), drop-append-add key (byte ∷ value) 1) refl

-- a word with the byte isn't one without it
pub differ : (byte : ℕ) (word text : List ℕ) → has byte word ≡ true → has byte text ≡ false → is word text ≡ false
differ byte word text h n = false_from_ne_true (is word text) (λ e. false≢true (sym n ∙ (ap (has byte) (sym (is-true word text e)) ∙ h)))

pub has-middle : (byte : ℕ) (front back : List ℕ) → has byte (front ++ byte ∷ back) ≡ true
has-middle byte [] back = or_left (eqb byte byte) (has byte back) (eq-eqb byte byte refl)
has-middle byte (b ∷ front) back = or_right (eqb b byte) (has byte (front ++ byte ∷ back)) (has-middle byte front back)

-- so a pair's word isn't one without `=`
pub pair_word-differs : (kv : Kv) (text : List ℕ) → has 61 text ≡ false → is (pair_word kv) text ≡ false
pair_word-differs kv text n = differ 61 (pair_word kv) text (has-middle 61 kv.key kv.value) n

-- a section with pairs is read again
pub section-again : (place : Place) (pair : Kv) (pairs : List Kv) → Kept place (pair ∷ pairs) → with_section place [] (pair_words (pair ∷ pairs)) ≡ Ok (pair ∷ pairs)
section-again place pair pairs k = rw (pair_word-differs pair (codes "rule") refl) k
