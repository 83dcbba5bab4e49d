-- Totals as they are stored.
use Rattle.std.specs.Prelude.{ℕ, nat_lt, min, max, if◌then◌else◌}

-- the stored points of -INFINITY and of INFINITY
abbrev pub stored_least : ℕ
stored_least = 1099510627776

abbrev pub stored_most : ℕ
stored_most = 1099512627776

-- the stored points of a node's total
abbrev pub stored_total : ℕ → ℕ → ℕ → ℕ
stored_total minus plus sum =
    if nat_lt 0 minus then stored_least else (if nat_lt 0 plus then stored_most else max stored_least (min stored_most sum))
