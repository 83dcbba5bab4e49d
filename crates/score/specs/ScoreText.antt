-- The text of a score, as it is read and as it is written.
use Rattle.std.specs.Prelude.{ℕ, ℤ, pos, neg_ℤ, Bool, ◌||◌, if◌then◌else◌, Option, Some, None, option_map, List, codes}
use Rattle.std.specs.Fmt.{signed_decimal}
use Rattle.std.specs.Int.{int_min}
use Rattle.std.specs.Ordering.{int_eq}
use Rattle.std.specs.Str.{str_eq_ignore_ascii_case}
use Rattle.std.specs.Str.Parse.{digits_value, starts_with_minus, without_leading_sign}
use Rattle.faults.specs.Digits.{is_number}
use Rattle.score.specs.Total.{infinity}

-- `inf` (crmsh manual, location) or `infinity` (Pacemaker Explained, "Scores"); that letters may be of either case is a rule of this project
abbrev pub is_infinity : List ℕ → Bool
is_infinity word = str_eq_ignore_ascii_case word (codes "inf") || str_eq_ignore_ascii_case word (codes "infinity")

-- the points that a word without a sign stands for: the number that it writes, up to the points of INFINITY, or those points where it
-- names INFINITY; none where it does neither (that a number is at most 4,294,967,295 is a rule of this project)
abbrev pub read_points : List ℕ → Option ℤ
read_points word =
    if is_number 4294967295 word then Some (int_min infinity (pos (digits_value 10 word))) else (if is_infinity word then Some infinity else None)

-- the points that a text is read as: those of the word after its sign, if it has one, and as many below zero if the sign is a minus
abbrev pub read_score : List ℕ → Option ℤ
read_score text =
    option_map (λ points. if starts_with_minus text then neg_ℤ points else points) (read_points (without_leading_sign text))

-- the text that is written for so many points: `INFINITY`, `-INFINITY`, or the decimal number
abbrev pub score_text : ℤ → List ℕ
score_text points =
    if int_eq points infinity then codes "INFINITY"
    else (if int_eq points (neg_ℤ infinity) then codes "-INFINITY" else signed_decimal points)
