-- A day of the calendar is a date of the library.
use Rattle.std.proofs.Common.{◌≡◌, ℕ, ◌≤◌, Bool, true, false, cond, ℤ, pos, Some, None, arith, ap}
use Rattle.std.proofs.lemmas.Int.{ints}
use Rattle.std.proofs.lemmas.Bool.Decides.{nat_tests}
use Rattle.jiff_core.specs.Calendar.{IsDate, days_from_civil}
use Rattle.jiff_core.specs.Date.{IsYmd, epoch_day}
use Rattle.jiff_core.specs.declared.civil.date.Date.{Date}
use Rattle.date_rules.specs.Calendar.{is_day, day_number}

-- the test of a day finds each date from the year 1 on
is_day-date : (year month day : ℕ) → 1 ≤ year → IsDate (pos year) (pos month) (pos day) → is_day year month day ≡ true
is_day-date year month day some h = grind (arith, nat_tests, ints)

by_test : (b : Bool) (v w : ℤ) → b ≡ true → v ≡ w → Some v ≡ cond b (Some w) None
by_test true v w t e = ap Some e
by_test false v w t e = absurd (cc)

-- the number of a date from the year 1 on
pub day_number-date : (year month day : ℕ) (y m d : ℤ) (date : Date) → 1 ≤ year → y ≡ pos year → m ≡ pos month → d ≡ pos day → IsDate y m d → IsYmd y m d date → Some (epoch_day date) ≡ day_number year month day
day_number-date year month day y m d date some ey em ed h p =
    let there : IsDate (pos year) (pos month) (pos day) = rw (ey, em, ed) at h in
    let same_year : date.year ≡ pos year = cc in
    let same_month : date.month ≡ month = cc in
    let same_day : date.day ≡ day = cc in
    let same : days_from_civil date.year date.month date.day ≡ days_from_civil (pos year) month day = cc in
    by_test (is_day year month day) (days_from_civil date.year date.month date.day) (days_from_civil (pos year) month day) (is_day-date year month day some there) same
