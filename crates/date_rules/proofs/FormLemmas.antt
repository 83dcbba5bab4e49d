-- What a text of a form has at its places.
use Rattle.std.proofs.Common.{◌≡◌, ℕ, zero, suc, ◌+◌, ◌<◌, true, false, nat_eq, List, [], ◌∷◌, length, get_or, take, refl, subst, arith}
use Rattle.std.specs.Char.{IsAsciiDigit}
use Rattle.std.specs.List.{list_all, zip}
use Rattle.std.proofs.lemmas.List.{take_all}
use Rattle.std.proofs.lemmas.Bool.Decides.{nat_tests}
use Rattle.std.proofs.lemmas.Bool.{and_parts}
use Rattle.date_rules.specs.Digits.{fits, has_form}
use Rattle.date_rules.specs.Inner.Digits.{HasTwoDigits}

-- a byte that fits the mark 0 is a digit
fits_digit : (mark byte : ℕ) → fits mark byte ≡ true → mark ≡ 48 → IsAsciiDigit byte
fits_digit mark byte h e = let f : fits 48 byte ≡ true = subst (λ m. fits m byte ≡ true) e h in grind (arith, nat_tests)

-- the byte at a place where the form has a 0
digit_at_mark : (form text : List ℕ) (place : ℕ) → length form ≡ length text → list_all (λ (pair : ℕ × ℕ). fits pair.0 pair.1) (zip form text) ≡ true → get_or form place 0 ≡ 48 → IsAsciiDigit (get_or text place 0)
digit_at_mark [] text place l h e = absurd (omega (arith, e))
digit_at_mark (f ∷ fs) [] place l h e = absurd (omega (arith, l))
digit_at_mark (f ∷ fs) (t ∷ ts) zero l h e = fits_digit f t (and_parts (fits f t) (list_all (λ (pair : ℕ × ℕ). fits pair.0 pair.1) (zip fs ts)) h).0 e
digit_at_mark (f ∷ fs) (t ∷ ts) (suc place) l h e = digit_at_mark fs ts place (omega (arith, l)) (and_parts (fits f t) (list_all (λ (pair : ℕ × ℕ). fits pair.0 pair.1) (zip fs ts)) h).1 e

-- two digits stand in a text where the form has two zeros
pub has_two_digits : (form text : List ℕ) (place : ℕ) → has_form form text ≡ true → get_or form place 0 ≡ 48 → get_or form (place + 1) 0 ≡ 48 → place + 1 < length form → HasTwoDigits text place
unfolding has_form
has_two_digits form text place h first second within =
    let p = and_parts (nat_eq (length form) (length text)) (list_all (λ (pair : ℕ × ℕ). fits pair.0 pair.1) (zip form text)) h in
    let l : length form ≡ length text = let q = p.0 in grind (arith, nat_tests) in
    record {
      within = omega arith;
      first = digit_at_mark form text place l p.1 first;
      second = digit_at_mark form text (place + 1) l p.1 second;
    }

-- a text that ends too early has no form of that length
pub has_form-short : (form text : List ℕ) (n : ℕ) → length text < n → length form ≡ n → has_form form (take n text) ≡ false
unfolding has_form
has_form-short form text n short long =
    let e : take n text ≡ text = take_all n text (omega arith) in
    let d : nat_eq (length form) (length text) ≡ false = grind (arith, nat_tests) in
    rw e (rw d refl)
