-- What is written for a score is read as the same score.
use Rattle.std.proofs.Common.{◌≡◌, ℕ, ◌≤◌, Bool, true, false, if◌then◌else◌, Some, List, codes, refl, sym, ap, arith, suc, ℤ, pos, neg_ℤ, ◌≤ℤ◌}
use lib.IntN.{negsuc}
use Rattle.std.specs.Fmt.{decimal, signed_decimal}
use Rattle.std.specs.Ordering.{int_eq}
use Rattle.std.specs.Str.Parse.{IsNumeral, starts_with_minus, without_leading_sign}
use Rattle.std.proofs.lemmas.Bool.Decides.{Decides-int_eq, nat_tests}
use Rattle.std.proofs.lemmas.Fmt.{decimal_is_IsNumeral}
use Rattle.std.proofs.lemmas.Int.{ints}
use Rattle.std.proofs.lemmas.Str.Parse.{digit_at, without_leading_plus_none}
use Rattle.score.specs.ScoreText.{read_points, read_score, score_text}
use Rattle.score.specs.Total.{infinity}
use Rattle.faults.proofs.Numbers.{digits, is_number-true}

-- digits have no minus
digits_minus : (word : List ℕ) → IsNumeral 10 word → starts_with_minus word ≡ false
digits_minus word h = let first = digit_at word 0 h.1 h.0 in grind (arith, nat_tests)

-- and no sign at all
digits_sign : (word : List ℕ) → IsNumeral 10 word → without_leading_sign word ≡ word
digits_sign word h =
    let first = digit_at word 0 h.1 h.0 in
    rw (digits_minus word h) (without_leading_plus_none word (λ e. absurd (omega (arith, first, e))))

-- a decimal number without a sign is read as that number
read_points-decimal : (n : ℕ) → n ≤ 1000000 → read_points (decimal n) ≡ Some (pos n)
read_points-decimal n h =
    let numeral = decimal_is_IsNumeral n (omega arith) in
    rw (is_number-true 4294967295 (decimal n) (digits.from (decimal n) numeral.0.1) numeral.0.0 (omega (arith, numeral.1)), numeral.1) (ap Some (grind (arith, nat_tests)))

-- and so is one with a minus
read_score-decimal : (points : ℤ) → neg_ℤ infinity ≤ℤ points → points ≤ℤ infinity → read_score (signed_decimal points) ≡ Some points
read_score-decimal (pos n) at_least at_most =
    let numeral = decimal_is_IsNumeral n (omega (arith, ints)) in
    rw (digits_sign (decimal n) numeral.0, digits_minus (decimal n) numeral.0, read_points-decimal n (omega (arith, ints))) refl
read_score-decimal (negsuc n) at_least at_most = rw (read_points-decimal (suc n) (omega (arith, ints))) refl

-- what is written is read back, by whether it is INFINITY or -INFINITY
read_written : (points : ℤ) → neg_ℤ infinity ≤ℤ points → points ≤ℤ infinity → (most least : Bool) → int_eq points infinity ≡ most → int_eq points (neg_ℤ infinity) ≡ least
    → read_score (if most then codes "INFINITY" else (if least then codes "-INFINITY" else signed_decimal points)) ≡ Some points
read_written points at_least at_most true least e f = ap Some (sym ((Decides-int_eq points infinity).0 e))
read_written points at_least at_most false true e f = ap Some (sym ((Decides-int_eq points (neg_ℤ infinity)).0 f))
read_written points at_least at_most false false e f = read_score-decimal points at_least at_most

-- what is written is read back
pub read_score-score_text : (points : ℤ) → neg_ℤ infinity ≤ℤ points → points ≤ℤ infinity → read_score (score_text points) ≡ Some points
read_score-score_text points at_least at_most = read_written points at_least at_most (int_eq points infinity) (int_eq points (neg_ℤ infinity)) refl refl
