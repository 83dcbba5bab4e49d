-- What the parts of a text say of its moment.
use Rattle.std.proofs.Common.{◌≡◌, ℕ, ◌+◌, ◌<◌, true, false, List, length, get_or, take, drop, ℤ, ◌+ℤ◌, ◌-ℤ◌, Option, Some, None, refl, sym, ap, ◌∙◌}
use Rattle.std.specs.Option.{option_and_then, option_map}
use Rattle.std.specs.Prelude.{codes}
use Rattle.lemmas.proofs.Booleans.{either}
use Rattle.date_rules.specs.Digits.{has_form}
use Rattle.date_rules.specs.Inner.Digits.{HasTwoDigits}
use Rattle.date_rules.specs.Instant.{is_empty, midnight, is_time, time_of_day, offset, after_midnight, instant}
use Rattle.date_rules.proofs.FormLemmas.{has_two_digits, has_form-short}

-- a text that ends too early says no day, and so no moment
pub instant-short : (text : List ℕ) → length text < 10 → None ≡ instant text
unfolding instant
instant-short text short = rw (has_form-short (codes "0000-00-00") text 10 short refl) refl

-- and no time of day
pub after_midnight-short : (text : List ℕ) → is_empty text ≡ false → length text < 9 → None ≡ after_midnight text
after_midnight-short text some short = rw (some, has_form-short (codes "T00:00:00") text 9 short refl, has_form-short (codes " 00:00:00") text 9 short refl) refl

-- two digits stand in a time of day
pub time_digits : (text : List ℕ) (place : ℕ) → is_time text ≡ true → get_or (codes "T00:00:00") place 0 ≡ 48 → get_or (codes "T00:00:00") (place + 1) 0 ≡ 48 → get_or (codes " 00:00:00") place 0 ≡ 48 → get_or (codes " 00:00:00") (place + 1) 0 ≡ 48 → place + 1 < 9 → HasTwoDigits text place
time_digits text place h a b c d within = either (has_form (codes "T00:00:00") text) (has_form (codes " 00:00:00") text) h
    (λ e. has_two_digits (codes "T00:00:00") text place e a b within)
    (λ e. has_two_digits (codes " 00:00:00") text place e c d within)

joined : (f : ℤ → ℤ → ℤ) (o p : Option ℤ) (a b : ℤ) → o ≡ Some a → p ≡ Some b → Some (f a b) ≡ option_and_then (λ x. option_map (λ y. f x y) p) o
joined f o p a b h k = rw (h, k) refl

-- a time of day and its offset
pub after_midnight-parts : (text time zone : List ℕ) (seconds ahead : ℤ) → is_empty text ≡ false → time ≡ take 9 text → zone ≡ drop 9 text → time_of_day time ≡ Some seconds → offset zone ≡ Some ahead → Some (seconds -ℤ ahead) ≡ after_midnight text
after_midnight-parts text time zone seconds ahead some et ez t z = rw some (joined (λ x y. x -ℤ y) (time_of_day (take 9 text)) (offset (drop 9 text)) seconds ahead (ap time_of_day (sym et) ∙ t) (ap offset (sym ez) ∙ z))

-- a day and what stands after it
pub instant-parts : (text day rest : List ℕ) (start seconds : ℤ) → day ≡ take 10 text → rest ≡ drop 10 text → midnight day ≡ Some start → after_midnight rest ≡ Some seconds → Some (start +ℤ seconds) ≡ instant text
unfolding instant
instant-parts text day rest start seconds ed er d r = joined (λ x y. x +ℤ y) (midnight (take 10 text)) (after_midnight (drop 10 text)) start seconds (ap midnight (sym ed) ∙ d) (ap after_midnight (sym er) ∙ r)

-- a text that begins with no day
pub instant-no_day : (text day : List ℕ) → day ≡ take 10 text → midnight day ≡ None → None ≡ instant text
unfolding instant
instant-no_day text day ed d = rw (ap midnight (sym ed) ∙ d) refl

-- a day, and then what is no time of day
pub instant-no_time : (text day rest : List ℕ) (start : ℤ) → day ≡ take 10 text → rest ≡ drop 10 text → midnight day ≡ Some start → after_midnight rest ≡ None → None ≡ instant text
unfolding instant
instant-no_time text day rest start ed er d r = rw (ap midnight (sym ed) ∙ d, ap after_midnight (sym er) ∙ r) refl
