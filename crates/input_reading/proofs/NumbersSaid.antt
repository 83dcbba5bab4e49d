-- Numbers and yes or no are read just as words say them.
use Rattle.std.proofs.Common.{◌≡◌, ℕ, ◌<◌, ◌≤◌, ◌==◌, Bool, true, false, cond, List, length, Option, Some, None, refl, sym, ap, subst, arith}
use Rattle.std.specs.Prelude.{codes}
use Rattle.std.specs.Char.{is_ascii_digit}
use Rattle.std.specs.List.{list_all}
use Rattle.std.specs.Str.Parse.{digits_value}
use Rattle.std.proofs.lemmas.Bool.Decides.{nat_tests}
use Rattle.crm_lex.specs.Names.{is}
use Rattle.crm_parse.proofs.Binds.{is-true}
use Rattle.faults.specs.Digits.{is_number, number_up_to}
use Rattle.faults.proofs.Numbers.{is_number-true}
use Rattle.input_reading.specs.Numbers.{above_0, read_action_number}
use Rattle.input_reading.specs.WordPlaces.{yes_or_no}
use Rattle.input_reading.specs.Grammar.WordValues.{SaysWhether, WritesNumber, WritesPositive, says_no, says_yes}

number-parts : (most : ℕ) (word : List ℕ) → is_number most word ≡ true
    → (list_all is_ascii_digit word ≡ true) × (0 < length word) × (digits_value 10 word ≤ most)
number-parts most word e = (grind (arith, nat_tests), grind (arith, nat_tests), grind (arith, nat_tests))

number-case : (most : ℕ) (word : List ℕ) (n : ℕ) (test : Bool) → is_number most word ≡ test → cond test (Some (digits_value 10 word)) None ≡ Some n
    → WritesNumber 0 most word n
number-case most word n false t e = cc
number-case most word n true t e =
    let parts = number-parts most word t in
    let value : digits_value 10 word ≡ n = cc in
    record { digits = parts.0; some = parts.1; value = value; low = omega arith; high = let h = parts.2 in omega (arith, h, value) }

-- a number is read as it is written
pub number-said : (most : ℕ) (word : List ℕ) (n : ℕ) → number_up_to most word ≡ Some n → WritesNumber 0 most word n
number-said most word n e = number-case most word n (is_number most word) refl e

pub number-read : (least most : ℕ) (word : List ℕ) (n : ℕ) → WritesNumber least most word n → number_up_to most word ≡ Some n
number-read least most word n w =
    let small : digits_value 10 word ≤ most = (let v = w.value in let h = w.high in omega (arith, v, h)) in
    rw (is_number-true most word w.digits w.some small) (ap Some w.value)

above-case : (m n : ℕ) (zero : Bool) → (m == 0) ≡ zero → cond zero None (Some m) ≡ Some n → (m ≡ n) × (1 ≤ n)
above-case m n true z e = cc
above-case m n false z e = let same : m ≡ n = cc in (same, grind (arith, nat_tests))

above : (found : Option ℕ) (n : ℕ) → above_0 found ≡ Some n → (found ≡ Some n) × (1 ≤ n)
above None n e = cc
above (Some m) n e = let h = above-case m n (m == 0) refl e in (ap Some h.0, h.1)

-- and so is the number of an action
pub count-said : (word : List ℕ) (n : ℕ) → read_action_number word ≡ Some n → WritesPositive word n
count-said word n e =
    let h = above (number_up_to 4294967295 word) n e in
    let w = number-said 4294967295 word n h.0 in
    record { digits = w.digits; some = w.some; value = w.value; low = h.1; high = w.high }

pub count-read : (word : List ℕ) (n : ℕ) → WritesPositive word n → read_action_number word ≡ Some n
count-read word n w =
    let low = w.low in
    let not_0 : (n == 0) ≡ false = grind (arith, nat_tests) in
    rw (number-read 1 4294967295 word n w, not_0) refl

whether-case : (word : List ℕ) (now y n : Bool) → is word (codes "yes") ≡ y → is word (codes "no") ≡ n
    → cond y (Some true) (cond n (Some false) None) ≡ Some now → SaysWhether word now
whether-case word now true b y n e =
    let same : true ≡ now = cc in subst (SaysWhether word) same (subst (λ w. SaysWhether w true) (sym (is-true word (codes "yes") y)) says_yes)
whether-case word now false true y n e =
    let same : false ≡ now = cc in subst (SaysWhether word) same (subst (λ w. SaysWhether w false) (sym (is-true word (codes "no") n)) says_no)
whether-case word now false false y n e = cc

-- yes and no
pub whether-said : (word : List ℕ) (now : Bool) → yes_or_no word ≡ Some now → SaysWhether word now
whether-said word now e = whether-case word now (is word (codes "yes")) (is word (codes "no")) refl refl e

pub whether-read : (word : List ℕ) (now : Bool) → SaysWhether word now → yes_or_no word ≡ Some now
whether-read w now says_yes = refl
whether-read w now says_no = refl
