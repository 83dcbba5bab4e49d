-- Numbers in decimal are read as the same numbers, and have the bytes of a name.
use Rattle.std.proofs.Common.{arith, ◌≡◌, ◌<◌, ◌≤◌, ◌^◌, ◌==◌, nat_le, ℕ, true, false, Some, List, [], ◌∷◌, length, refl, ap, ◌∙◌}
use Rattle.std.specs.Char.{is_ascii_digit}
use Rattle.std.specs.Fmt.{decimal}
use Rattle.std.specs.List.{list_all}
use Rattle.std.specs.Str.Parse.{digits_value}
use Rattle.std.proofs.lemmas.Bool.{and_parts}
use Rattle.std.proofs.lemmas.Bool.Decides.{nat_tests}
use Rattle.std.proofs.lemmas.Fmt.{decimal_nonempty, digits_decimal, digits_value-decimal, length-decimal-le}
use Rattle.crm_lex.specs.Names.{is_name, is_name_byte}
use Rattle.faults.specs.Digits.{number_up_to}
use Rattle.faults.proofs.Numbers.{digits, is_number-true}
use Rattle.input_reading.specs.Numbers.{above_0, read_exit_code, read_action_number, read_seconds}
use Rattle.input_reading.specs.PrintedLines.{IsNumber}

up_to_again : (most n : ℕ) → n ≤ most → n < 2 ^ 64 → number_up_to most (decimal n) ≡ Some n
up_to_again most n le h =
    let value : digits_value 10 (decimal n) ≡ n = digits_value-decimal digits n h in
    let is = is_number-true most (decimal n) (digits_decimal digits n h) (decimal_nonempty n h) (omega (arith, value, le)) in
    rw is (ap Some value)

pub number_again : (n : ℕ) → IsNumber n → read_action_number (decimal n) ≡ Some n
number_again n is =
    let read : number_up_to 4294967295 (decimal n) ≡ Some n = up_to_again 4294967295 n (omega (arith, is.high)) (omega (arith, is.high)) in
    let above : (n == 0) ≡ false = (let low = is.low in grind (arith, nat_tests)) in
    ap above_0 read ∙ rw above refl

pub code_again : (code : ℕ) → code < 256 → read_exit_code (decimal code) ≡ Some code
code_again code h = up_to_again 255 code (omega (arith, h)) (omega (arith, h))

pub seconds_again : (seconds : ℕ) → seconds < 2 ^ 40 → read_seconds (decimal seconds) ≡ Some seconds
seconds_again seconds h = up_to_again 1099511627775 seconds (omega (arith, h)) (omega (arith, h))

digit_byte : (b : ℕ) → is_ascii_digit b ≡ true → is_name_byte b ≡ true
digit_byte b h = grind (arith, nat_tests)

digit_bytes : (word : List ℕ) → list_all is_ascii_digit word ≡ true → list_all is_name_byte word ≡ true
digit_bytes [] h = refl
digit_bytes (b ∷ bs) h =
    let parts = and_parts (is_ascii_digit b) (list_all is_ascii_digit bs) h in
    let first = digit_byte b parts.0 in
    let rest = digit_bytes bs parts.1 in
    rw (first, rest) refl

-- a number is written as a name is
pub number_is_name : (n : ℕ) → n < 2 ^ 64 → is_name (decimal n) ≡ true
number_is_name n h =
    let some = decimal_nonempty n h in
    let few : length (decimal n) ≤ 20 = length-decimal-le 20 n (omega arith) (omega (arith, h)) h in
    let one : (length (decimal n) == 0) ≡ false = grind (arith, nat_tests) in
    let two : nat_le (length (decimal n)) 256 ≡ true = grind (arith, nat_tests) in
    let all = digit_bytes (decimal n) (digits_decimal digits n h) in
    rw (one, two, all) refl
