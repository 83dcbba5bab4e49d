-- The whole numbers that texts write.
use Rattle.std.specs.Prelude.{ℕ, ◌^◌, not, ◌&&◌, ◌==◌, nat_lt, Bool, if◌then◌else◌, ℤ, pos, negsuc, List, length, Option, Some, None}
use Rattle.std.specs.Str.{all_ascii_digits}
use Rattle.std.specs.Str.Parse.{without_leading_sign, signed_digits_value}

-- from -2^63 to 2^63 - 1
abbrev pub is_in_range : ℤ → Bool
is_in_range (pos n) = nat_lt n (2 ^ 63)
is_in_range (negsuc n) = nat_lt n (2 ^ 63)

-- one digit or more
abbrev pub is_digits : List ℕ → Bool
is_digits text = not (length text == 0) && all_ascii_digits text

-- the whole number that a text writes: a sign or none, then digits, in that range (rule of this project)
abbrev pub whole_number : List ℕ → Option ℤ
whole_number text =
    if is_digits (without_leading_sign text) && is_in_range (signed_digits_value 10 text) then Some (signed_digits_value 10 text) else None
