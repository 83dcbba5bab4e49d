-- The total of a row.
use Rattle.std.specs.Prelude.{ℤ, neg_ℤ, if◌then◌else◌}
use Rattle.score.specs.Total.{cut, infinity}
use Rattle.score.specs.Row.{Tally}

-- the points of the total of what was tallied
abbrev pub tally_total : Tally → ℤ
tally_total tally = if tally.minus then neg_ℤ infinity else (if tally.plus then infinity else cut tally.finite)
