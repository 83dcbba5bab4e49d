-- The numbers that words write: digits, with leading zeros or without, of a value in a range (rule of this project).
use Rattle.std.specs.Prelude.{ℕ, ◌==◌, if◌then◌else◌, List, Option, Some, None}
use Rattle.faults.specs.Digits.{number_up_to}

-- seconds, below 2^40
abbrev pub read_seconds : List ℕ → Option ℕ
read_seconds word = number_up_to 1099511627775 word

-- an interval in milliseconds
abbrev pub read_interval : List ℕ → Option ℕ
read_interval word = number_up_to 4294967295 word

abbrev pub above_0 : Option ℕ → Option ℕ
above_0 (Some n) = if n == 0 then None else Some n
above_0 None = None

-- the number of an action, from 1 on
abbrev pub read_action_number : List ℕ → Option ℕ
read_action_number word = above_0 (number_up_to 4294967295 word)

-- an exit code
abbrev pub read_exit_code : List ℕ → Option ℕ
read_exit_code word = number_up_to 255 word
