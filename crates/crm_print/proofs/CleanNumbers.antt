-- The text of a score is clean.
use Rattle.std.proofs.Common.{◌≡◌, ℕ, ◌≤◌, suc, ℤ, pos, neg_ℤ, ◌≤ℤ◌, Bool, true, false, if◌then◌else◌, List, [], ◌∷◌, refl, arith}
use Rattle.std.specs.Prelude.{codes}
use Rattle.std.specs.Char.{is_ascii_digit}
use Rattle.std.specs.Fmt.{decimal, signed_decimal}
use Rattle.std.specs.List.{list_all}
use Rattle.std.specs.Ordering.{int_eq}
use Rattle.std.proofs.lemmas.Bool.{and_from, and_parts}
use Rattle.std.proofs.lemmas.Bool.Decides.{nat_tests}
use Rattle.std.proofs.lemmas.Fmt.{decimal_is_IsNumeral}
use Rattle.std.proofs.lemmas.Int.{ints}
use lib.IntN.{negsuc}
use Rattle.score.specs.ScoreText.{score_text}
use Rattle.score.specs.Total.{infinity}
use Rattle.faults.proofs.Numbers.{digits}
use Rattle.crm_print.proofs.Clean.{Clean, clean-append, clean-ascii, is_clean_byte}
use Rattle.crm_parse.proofs.ScoreRead.{IsRead, read_score-within}
use Rattle.crm_print.proofs.Written.{score_word}

digit_byte : (b : ℕ) → is_ascii_digit b ≡ true → is_clean_byte b ≡ true
digit_byte b h = grind (arith, nat_tests)

digit_bytes : (xs : List ℕ) → list_all is_ascii_digit xs ≡ true → list_all is_clean_byte xs ≡ true
digit_bytes [] h = refl
digit_bytes (x ∷ xs) h =
    let (one, rest) = and_parts (is_ascii_digit x) (list_all is_ascii_digit xs) h in
    and_from (is_clean_byte x) (list_all is_clean_byte xs) (digit_byte x one) (digit_bytes xs rest)

pub decimal-clean : (n : ℕ) → n ≤ 1000000 → Clean (decimal n)
decimal-clean n h =
    let numeral = decimal_is_IsNumeral n (omega arith) in
    clean-ascii (decimal n) (digit_bytes (decimal n) (digits.from (decimal n) numeral.0.1))

signed-clean : (points : ℤ) → neg_ℤ infinity ≤ℤ points → points ≤ℤ infinity → Clean (signed_decimal points)
signed-clean (pos n) l h = decimal-clean n (omega (arith, ints))
signed-clean (negsuc n) l h = clean-append (codes "-") (decimal (suc n)) (clean-ascii (codes "-") refl) (decimal-clean (suc n) (omega (arith, ints)))

text-clean : (most least : Bool) (points : ℤ) → Clean (signed_decimal points)
    → Clean (if most then codes "INFINITY" else (if least then codes "-INFINITY" else signed_decimal points))
text-clean true least points c = clean-ascii (codes "INFINITY") refl
text-clean false true points c = clean-ascii (codes "-INFINITY") refl
text-clean false false points c = c

-- a score with its colon
pub score-clean : (points : ℤ) → IsRead points → Clean (score_word points)
score-clean points h =
    let w = read_score-within (score_text points) points h in
    clean-append (score_text points) (codes ":") (text-clean (int_eq points infinity) (int_eq points (neg_ℤ infinity)) points (signed-clean points w.0 w.1)) (clean-ascii (codes ":") refl)
