-- Totals that reach a floor, and the greatest node.
use Rattle.std.proofs.Common.{◌≡◌, ◌≢◌, ◌⊎◌, inl, inr, ℕ, ◌+◌, ◌-◌, ◌<◌, ◌≤◌, ℤ, pos, ◌+ℤ◌, ◌<ℤ◌, int_lt, true, false, not, nat_eq, nat_lt, if◌then◌else◌, List, length, Some, arith}
use Rattle.std.proofs.lemmas.Bool.{cases_lt}
use Rattle.std.proofs.lemmas.Int.{ints}

-- a lane that reaches a floor
pub reach_is : (bit lane floor : ℕ) (points least : ℤ) → pos lane ≡ (points +ℤ pos 1000000) → pos floor ≡ (least +ℤ pos 1000000)
    → bit ≡ (if nat_lt lane floor then 0 else 1) → nat_eq bit 1 ≡ not (int_lt points least)
reach_is bit lane floor points least p f b = grind (arith, ints)
