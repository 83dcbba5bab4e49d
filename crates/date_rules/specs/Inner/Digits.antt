-- Digits at a place of a text.
use Rattle.std.specs.Prelude.{ℕ, ◌+◌, ◌<◌, List, length, slice_index}
use Rattle.std.specs.Char.{IsAsciiDigit}

-- two digits stand at a place of the text
pub record HasTwoDigits (text : List ℕ) (place : ℕ) : Type 0 where
  pub within : place + 1 < length text
  pub first : IsAsciiDigit (slice_index text place)
  pub second : IsAsciiDigit (slice_index text (place + 1))
