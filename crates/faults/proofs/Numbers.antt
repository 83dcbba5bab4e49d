-- Digits and their number.
use Rattle.std.proofs.Common.{◌≡◌, ℕ, ◌<◌, ◌≤◌, true, false, Some, List, length, refl, ap, arith, rules, Result, Ok, Err}
use Rattle.std.specs.Char.{is_ascii_digit}
use Rattle.std.specs.List.{list_all}
use Rattle.std.specs.Result.{result_ok}
use Rattle.std.specs.Str.{IsUtf8}
use Rattle.std.specs.Str.Parse.{ParsesUnsigned, digits_value}
use Rattle.std.proofs.lemmas.Bool.Decides.{nat_tests}
use Rattle.std.proofs.lemmas.Bool.{false_from_ne_true}
use Rattle.std.proofs.lemmas.Fmt.{IsAscii-from_digits}
use Rattle.std.proofs.lemmas.Str.{IsUtf8-from_ascii}
use Rattle.std.proofs.lemmas.Str.Parse.{IsNumeralModel, numerals_by_value, parse_digits}
use Rattle.faults.specs.Digits.{is_number, number_up_to}

-- a text of decimal digits is one of which each byte is a digit
pub digits : IsNumeralModel (λ word. list_all is_ascii_digit word ≡ true) (digits_value 10)
digits = numerals_by_value _ (search rules)

-- digits are UTF-8
pub digits_utf8 : (word : List ℕ) → list_all is_ascii_digit word ≡ true → IsUtf8 word
digits_utf8 word all = IsUtf8-from_ascii word (IsAscii-from_digits word (digits.to word all))

-- digits of a value that is small enough are a number
pub is_number-true : (most : ℕ) (word : List ℕ) → list_all is_ascii_digit word ≡ true → 0 < length word → digits_value 10 word ≤ most
    → is_number most word ≡ true
is_number-true most word all some small = grind (arith, nat_tests)

-- none at all, and digits of a greater value, are none
is_number-false : (most : ℕ) (word : List ℕ) → list_all is_ascii_digit word ≡ true → ¬ ((0 < length word) × (digits_value 10 word ≤ most))
    → is_number most word ≡ false
is_number-false most word all not_both =
    false_from_ne_true (is_number most word) (λ yes. not_both (grind (arith, nat_tests), grind (arith, nat_tests)))

-- what is parsed of digits is their number
pub number_parsed : {E : Type 0} (word : List ℕ) (read : Result ℕ E) → ParsesUnsigned 64 10 word read → list_all is_ascii_digit word ≡ true
    → result_ok read ≡ number_up_to 18446744073709551615 word
number_parsed {E = E} word (Ok value) parsed all =
    let told = parse_digits digits {E = E} 64 word (Ok value) parsed all in
    rw (is_number-true 18446744073709551615 word all told.0.0 (omega (arith, told.0.1))) (ap Some told.1)
number_parsed {E = E} word (Err fault) parsed all =
    let greater = parse_digits digits {E = E} 64 word (Err fault) parsed all in
    rw (is_number-false 18446744073709551615 word all (λ both. greater (both.0, omega (arith, both.1)))) refl
