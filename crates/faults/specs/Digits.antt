-- The numbers that words of decimal digits write.
use Rattle.std.specs.Prelude.{ℕ, Bool, not, ◌==◌, ◌&&◌, nat_le, if◌then◌else◌, List, length, Option, Some, None}
use Rattle.std.specs.Char.{is_ascii_digit}
use Rattle.std.specs.List.{list_all}
use Rattle.std.specs.Str.Parse.{digits_value}

-- one digit or more and nothing else, of a value up to this one
abbrev pub is_number : ℕ → List ℕ → Bool
is_number most word = not (length word == 0) && list_all is_ascii_digit word && nat_le (digits_value 10 word) most

-- the number that a word writes, if it is at most this one
abbrev pub number_up_to : ℕ → List ℕ → Option ℕ
number_up_to most word = if is_number most word then Some (digits_value 10 word) else None
