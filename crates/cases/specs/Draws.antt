-- Numbers that are drawn one after the other: a linear congruential generator with the factor and the addend of the C standard's example of `rand` (that it
-- begins with a number of the caller, and what is taken of a state, are rules of this project).
use Rattle.std.specs.Prelude.{ℕ, zero, suc, ◌+◌, ◌*◌, ◌/◌, ◌%◌}

-- the state that follows one
abbrev pub next_state : ℕ → ℕ
next_state x = (x * 1103515245 + 12345) % 2147483648

-- the state after so many draws
unfoldable pub state_after : ℕ → ℕ → ℕ
state_after number zero = number % 2147483648
state_after number (suc drawn) = next_state (state_after number drawn)

-- what is taken of a state: a number below a bound
abbrev pub taken_of : ℕ → ℕ → ℕ
taken_of state bound = state / 65536 % bound

-- what a draw gives, counted from 1
abbrev pub draw : ℕ → ℕ → ℕ → ℕ
draw number at bound = taken_of (state_after number at) bound
