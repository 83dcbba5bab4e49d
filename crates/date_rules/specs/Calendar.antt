-- The days of the calendar, by their numbers.
use Rattle.std.specs.Prelude.{ℕ, ◌&&◌, nat_le, Bool, if◌then◌else◌, ℤ, pos, Option, Some, None}
use Rattle.jiff_core.specs.Calendar.{days_in_month, days_from_civil}

-- the calendar has the day, of a year from 1 to 9999
abbrev pub is_day : ℕ → ℕ → ℕ → Bool
is_day year month day =
    nat_le 1 year && nat_le year 9999 && nat_le 1 month && nat_le month 12 && nat_le 1 day && nat_le day (days_in_month (pos year) month)

-- the number of a day: 0 for 1970-01-01, and negative before it
abbrev pub day_number : ℕ → ℕ → ℕ → Option ℤ
day_number year month day = if is_day year month day then Some (days_from_civil (pos year) month day) else None
