-- The points of scores in a list.
use Rattle.std.proofs.Common.{◌≡◌, ◌≢◌, ℕ, ◌<◌, ℤ, pos, List, length, set}
use Rattle.std.proofs.lemmas.List.{get_or-set_same, get_or-set_other}
use Rattle.score.specs.Choice.{points_at}

-- where a score was put
pub points_set_same : (scores : List ℤ) (i : ℕ) (score : ℤ) → i < length scores → points_at (set scores i score) i ≡ score
points_set_same scores i score within = get_or-set_same scores i score (pos 0) within

-- elsewhere
pub points_set_other : (scores : List ℤ) (i k : ℕ) (score : ℤ) → k ≢ i → points_at (set scores i score) k ≡ points_at scores k
points_set_other scores i k score other = get_or-set_other scores i k score (pos 0) other
