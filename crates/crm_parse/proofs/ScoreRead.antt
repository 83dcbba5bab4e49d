-- A score that was read is a score, and is read again.
use Rattle.std.proofs.Common.{◌≡◌, ℕ, ℤ, pos, neg_ℤ, ◌≤ℤ◌, Bool, true, false, if◌then◌else◌, List, Option, Some, None, Ok, refl, subst, arith, sym, [], ◌∷◌, ◌++◌}
use Rattle.std.specs.Prelude.{codes, option_map}
use Rattle.std.specs.Int.{int_min}
use Rattle.std.specs.Option.{ok_or}
use Rattle.std.specs.Str.Parse.{digits_value, starts_with_minus, without_leading_sign}
use Rattle.std.proofs.lemmas.Bool.Decides.{nat_tests}
use Rattle.std.proofs.lemmas.Int.{ints}
use Rattle.faults.specs.Digits.{is_number}
use Rattle.score.specs.ScoreText.{is_infinity, read_points, read_score, score_text}
use Rattle.score.specs.Total.{infinity, IsScore}
use Rattle.score.proofs.TextLemmas.{read_score-score_text}
use Rattle.crm_parse.specs.declared.fault.ParseCause.TheVariants.{BadScore}
use Rattle.crm_parse.specs.Reading.{score_of}
use Rattle.crm_parse.specs.Texts.{before}
use Rattle.crm_parse.proofs.Binds.{ok_or-ok}
use Rattle.faults.proofs.Steps.{bind-ok}
use Rattle.std.specs.Char.{is_ascii_digit}

abbrev Within : ℤ → Type 0
Within points = (pos 0 ≤ℤ points) × (points ≤ℤ infinity)

chosen : (number names : Bool) (n : ℕ) (points : ℤ)
    → (if number then Some (int_min infinity (pos n)) else (if names then Some infinity else None)) ≡ Some points → Within points
chosen true names n points e = let h : int_min infinity (pos n) ≡ points = cc in subst Within h (grind (arith, nat_tests, ints), grind (arith, nat_tests, ints))
chosen false true n points e = let h : infinity ≡ points = cc in subst Within h (omega (arith, ints), omega (arith, ints))
chosen false false n points e = cc

-- the points that are read lie within those of INFINITY
points_within : (word : List ℕ) (points : ℤ) → read_points word ≡ Some points → Within points
points_within word points e = chosen (is_number 4294967295 word) (is_infinity word) (digits_value 10 word) points e

signed : (minus : Bool) (read : Option ℤ) (points : ℤ) → ((p : ℤ) → read ≡ Some p → Within p)
    → option_map (λ p. if minus then neg_ℤ p else p) read ≡ Some points → IsScore points
signed minus None points h e = cc
signed true (Some p) points h e = let w = h p refl in let s : neg_ℤ p ≡ points = cc in subst IsScore s (omega (arith, ints), omega (arith, ints))
signed false (Some p) points h e = let w = h p refl in let s : p ≡ points = cc in subst IsScore s (omega (arith, ints), omega (arith, ints))

pub read_score-within : (text : List ℕ) (points : ℤ) → read_score text ≡ Some points → IsScore points
read_score-within text points e = signed (starts_with_minus text) (read_points (without_leading_sign text)) points (points_within (without_leading_sign text)) e

-- what is written for a score that was read is read as that score
pub score-again : (text : List ℕ) (points : ℤ) → read_score text ≡ Some points → read_score (score_text points) ≡ Some points
score-again text points e = let w = read_score-within text points e in read_score-score_text points w.0 w.1

-- a score that is written so is read again
abbrev pub IsRead : ℤ → Type 0
IsRead points = read_score (score_text points) ≡ Some points

-- a score with its colon
pub score_of-ok : (word : List ℕ) (points : ℤ) → score_of word ≡ Ok points → IsRead points
unfolding score_of
score_of-ok word points e =
    let (text, found, rest) = bind-ok (ok_or (before (codes ":") word) BadScore) _ points e in
    score-again text points (ok_or-ok (read_score text) BadScore points rest)

number-none : (b : ℕ) (text : List ℕ) → is_ascii_digit b ≡ false → is_number 4294967295 (b ∷ text) ≡ false
number-none b text h = grind (arith, nat_tests)

-- a text that begins with a byte that is no digit and no sign, and isn't INFINITY, is no score
pub score-none : (b : ℕ) → is_ascii_digit b ≡ false → ((text : List ℕ) → without_leading_sign (b ∷ text) ≡ b ∷ text)
    → ((text : List ℕ) → is_infinity (b ∷ text) ≡ false) → (text : List ℕ) → read_score (b ∷ text) ≡ None
score-none b digit sign names text = rw (sign text, number-none b text digit, names text) refl

-- the text of a score begins with no byte with which none begins
pub first-none : (b : ℕ) (label text more rest : List ℕ) (points : ℤ) → ((t : List ℕ) → read_score (b ∷ t) ≡ None) → read_score text ≡ Some points
    → text ++ more ≡ (b ∷ label) ++ rest → ⊥
first-none b label [] more rest points none e f = let h : None ≡ Some points = e in cc
first-none b label (c ∷ text) more rest points none e f =
    let s : c ≡ b = cc in
    let n : read_score (c ∷ text) ≡ None = subst (λ x. read_score (x ∷ text) ≡ None) (sym s) (none text) in
    cc
