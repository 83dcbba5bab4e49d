-- Texts with digits at fixed places.
use Rattle.std.specs.Prelude.{ℕ, ◌+◌, ◌-◌, ◌*◌, ◌&&◌, ◌==◌, Bool, if◌then◌else◌, List, length, slice_index}
use Rattle.std.specs.Char.{is_ascii_digit}
use Rattle.std.specs.List.{list_all, zip}

-- a byte fits a mark: a digit the mark 0, and else the byte that the mark is
abbrev pub fits : ℕ → ℕ → Bool
fits mark byte = if mark == 48 then is_ascii_digit byte else byte == mark

-- the text is as long as the form, and each byte fits its mark
unfoldable pub has_form : List ℕ → List ℕ → Bool
has_form form text = (length form == length text) && list_all (λ (pair : ℕ × ℕ). fits pair.0 pair.1) (zip form text)

-- the number that the two digits from a place on write
abbrev pub two_digits : List ℕ → ℕ → ℕ
two_digits text place = 10 * (slice_index text place - 48) + (slice_index text (place + 1) - 48)
