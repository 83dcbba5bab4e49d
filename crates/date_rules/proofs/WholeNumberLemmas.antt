-- What `parse` reads is the whole number that a text writes.
use Rattle.std.proofs.Common.{◌≡◌, ℕ, ◌<◌, zero, suc, Bool, true, false, ◌&&◌, not, nat_eq, List, [], ◌∷◌, length, get_or, drop, ℤ, pos, negsuc, Some, None, Ok, Err, Result, refl, ap, cond, arith, w64, FitsSigned}
use Rattle.std.specs.Char.{is_ascii_digit}
use Rattle.std.specs.Result.{OkIff, result_ok}
use Rattle.std.specs.Str.{all_ascii_digits, IsUtf8, IsAscii}
use Rattle.std.specs.Str.Parse.{IsNumeral, ParsesSigned, without_leading_sign, signed_digits_value}
use Rattle.std.proofs.lemmas.Str.{IsUtf8-from_ascii}
use Rattle.std.proofs.lemmas.Str.Parse.{tells_all_ascii_digits, numerals_by_value}
use Rattle.std.proofs.lemmas.Bool.Decides.{nat_tests}
use Rattle.std.proofs.lemmas.Bool.{and_parts}
use Rattle.date_rules.specs.WholeNumber.{is_in_range, is_digits, whole_number}

-- a test that decides when there is a number decides what there is
by_test : {E P : Type 0} (b : Bool) (v : ℤ) (r : Result ℤ E) → (b ≡ true → P) → (P → b ≡ true) → OkIff r P v → result_ok r ≡ cond b (Some v) None
by_test true v (Ok x) f g h = ap Some h.1
by_test true v (Err e) f g h = absurd (h (f refl))
by_test false v (Ok x) f g h = absurd (cc (g h.0))
by_test false v (Err e) f g h = refl

-- the range that is tested is that of an i64
range_fits : (z : ℤ) → is_in_range z ≡ true → FitsSigned w64 z
range_fits (pos n) h = record { sfits = grind (arith, nat_tests) }
range_fits (negsuc n) h = record { sfits = grind (arith, nat_tests) }

fits_range : (z : ℤ) → FitsSigned w64 z → is_in_range z ≡ true
fits_range (pos n) h = let f = h.sfits in grind (arith, nat_tests)
fits_range (negsuc n) h = let f = h.sfits in grind (arith, nat_tests)

-- digits are a numeral, and the other way round
digits_numeral : (ds : List ℕ) → is_digits ds ≡ true → IsNumeral 10 ds
digits_numeral ds h =
    let p = and_parts (not (nat_eq (length ds) 0)) (all_ascii_digits ds) h in
    let some : 0 < length ds = grind (arith, nat_tests) in
    (some, (numerals_by_value _ tells_all_ascii_digits).to ds p.1)

numeral_digits : (ds : List ℕ) → IsNumeral 10 ds → is_digits ds ≡ true
numeral_digits ds h =
    let some : not (nat_eq (length ds) 0) ≡ true = let n = h.0 in grind (arith, nat_tests) in
    let digits = (numerals_by_value _ tells_all_ascii_digits).from ds h.1 in
    λ i. some i && digits i

-- what `parse` reads
pub whole_number-parsed : {E : Type 0} (text : List ℕ) (r : Result ℤ E) → ParsesSigned w64 10 text r → result_ok r ≡ whole_number text
whole_number-parsed text r h = by_test (is_digits (without_leading_sign text) && is_in_range (signed_digits_value 10 text)) (signed_digits_value 10 text) r
    (λ t. let p = and_parts _ _ t in (digits_numeral (without_leading_sign text) p.0, range_fits (signed_digits_value 10 text) p.1))
    (λ p. λ i. numeral_digits (without_leading_sign text) p.0 i && fits_range (signed_digits_value 10 text) p.1 i)
    h

-- digits are ASCII
ascii_digits : (ds : List ℕ) → all_ascii_digits ds ≡ true → (i : ℕ) → get_or ds i 0 < 128
ascii_digits [] h i = omega arith
ascii_digits (c ∷ cs) h zero = let t = (and_parts (is_ascii_digit c) (all_ascii_digits cs) h).0 in grind (arith, nat_tests)
ascii_digits (c ∷ cs) h (suc i) = ascii_digits cs (and_parts (is_ascii_digit c) (all_ascii_digits cs) h).1 i

-- and so are digits after a sign
ascii_signed : (c : ℕ) (cs : List ℕ) (minus plus : Bool) → nat_eq c 45 ≡ minus → nat_eq c 43 ≡ plus → all_ascii_digits (cond minus cs (drop (cond plus 1 0) (c ∷ cs))) ≡ true → (i : ℕ) → get_or (c ∷ cs) i 0 < 128
ascii_signed c cs true plus m p h zero = grind (arith, nat_tests)
ascii_signed c cs true plus m p h (suc i) = ascii_digits cs h i
ascii_signed c cs false true m p h zero = grind (arith, nat_tests)
ascii_signed c cs false true m p h (suc i) = ascii_digits cs h i
ascii_signed c cs false false m p h i = ascii_digits (c ∷ cs) h i

ascii_numeral : (text : List ℕ) → all_ascii_digits (without_leading_sign text) ≡ true → IsAscii text
ascii_numeral [] h i = omega arith
ascii_numeral (c ∷ cs) h i = ascii_signed c cs (nat_eq c 45) (nat_eq c 43) refl refl h i

by_false : (b : Bool) (v : ℤ) → (b ≡ true → ⊥) → None ≡ cond b (Some v) None
by_false true v n = absurd (n refl)
by_false false v n = refl

-- bytes that are no text write no whole number
pub whole_number-not_utf8 : (text : List ℕ) → ¬ IsUtf8 text → None ≡ whole_number text
whole_number-not_utf8 text n = by_false (is_digits (without_leading_sign text) && is_in_range (signed_digits_value 10 text)) (signed_digits_value 10 text)
    (λ t. n (IsUtf8-from_ascii text (ascii_numeral text (and_parts _ _ (and_parts _ _ t).0).1)))
