-- The state before the first draw, and after one draw more.
use Rattle.std.proofs.Common.{arith, ◌≡◌, ◌+◌, ◌%◌, ℕ, suc, refl}
use Rattle.cases.specs.Draws.{next_state, state_after}

pub state_begins : (number : ℕ) → state_after number 0 ≡ number % 2147483648
unfolding state_after
state_begins number = refl

pub state_more : (number drawn : ℕ) → state_after number (drawn + 1) ≡ next_state (state_after number drawn)
unfolding state_after
state_more number drawn = let on : drawn + 1 ≡ suc drawn = omega arith in rw on refl
