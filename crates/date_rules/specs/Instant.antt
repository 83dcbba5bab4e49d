-- The moment that a text says, in seconds since 1970-01-01T00:00:00Z.
use Rattle.std.specs.Prelude.{ℕ, ◌+◌, ◌*◌, nat_lt, Bool, ◌&&◌, ◌||◌, ◌==◌, if◌then◌else◌, ℤ, pos, neg_ℤ, ◌+ℤ◌, ◌-ℤ◌, ◌*ℤ◌, List, length, take, drop, Option, Some, None, codes}
use Rattle.std.specs.Option.{option_map, option_and_then}
use Rattle.date_rules.specs.Attribute.{is_same_text}
use Rattle.date_rules.specs.Calendar.{day_number}
use Rattle.date_rules.specs.Digits.{has_form, two_digits}

-- nothing stands there
abbrev pub is_empty : List ℕ → Bool
is_empty text = length text == 0

-- the midnight that begins the day which a text says, as 2000-02-29
abbrev pub midnight : List ℕ → Option ℤ
midnight text =
    if has_form (codes "0000-00-00") text
    then option_map (λ day. day *ℤ pos 86400) (day_number (100 * two_digits text 0 + two_digits text 2) (two_digits text 5) (two_digits text 8))
    else None

-- the seconds of a count of hours, minutes and seconds
abbrev pub clock_seconds : ℕ → ℕ → ℕ → ℕ
clock_seconds hours minutes seconds = 3600 * hours + 60 * minutes + seconds

-- a time of day stands there, after a `T` or a space
abbrev pub is_time : List ℕ → Bool
is_time text = has_form (codes "T00:00:00") text || has_form (codes " 00:00:00") text

-- the seconds from midnight to the time of day that a text says, as T23:59:59
abbrev pub time_of_day : List ℕ → Option ℤ
time_of_day text =
    if is_time text && nat_lt (two_digits text 1) 24 && nat_lt (two_digits text 4) 60 && nat_lt (two_digits text 7) 60
    then Some (pos (clock_seconds (two_digits text 1) (two_digits text 4) (two_digits text 7)))
    else None

-- the seconds of the hours and minutes of an offset, as 05:30 after its sign
abbrev pub offset_seconds : List ℕ → Option ℤ
offset_seconds text =
    if nat_lt (two_digits text 1) 24 && nat_lt (two_digits text 4) 60
    then Some (pos (clock_seconds (two_digits text 1) (two_digits text 4) 0))
    else None

-- the seconds by which a clock is ahead of UTC: none where nothing or a `Z` stands, else those of an offset, as +05:30 or -05:30
abbrev pub offset : List ℕ → Option ℤ
offset text =
    if is_empty text || is_same_text text (codes "Z") then Some (pos 0)
    else if has_form (codes "+00:00") text then offset_seconds text
    else if has_form (codes "-00:00") text then option_map neg_ℤ (offset_seconds text)
    else None

-- the seconds from midnight to what stands after a day: none where nothing does, else a time of day, whose offset is taken away
abbrev pub after_midnight : List ℕ → Option ℤ
after_midnight text =
    if is_empty text then Some (pos 0)
    else option_and_then (λ time. option_map (λ ahead. time -ℤ ahead) (offset (drop 9 text))) (time_of_day (take 9 text))

-- the moment that a text says: a day, alone or with a time of day in UTC or at an offset
-- (Pacemaker Explained, "Date/Time Expressions"; this form of them is a rule of this project)
unfoldable pub instant : List ℕ → Option ℤ
instant text =
    option_and_then (λ start. option_map (λ seconds. start +ℤ seconds) (after_midnight (drop 10 text))) (midnight (take 10 text))
