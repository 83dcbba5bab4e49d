-- The recurring monitors of a primitive: no more than 8, each of an interval of its own (rule of this project).
use Rattle.std.specs.Prelude.{ℕ, ◌≢◌, ◌<◌, ◌≤◌, if◌then◌else◌, List, ◌∷◌, length, AllPairs, []}
use Rattle.std.specs.List.{AllByRecursion, flat_map}
use Rattle.crm_parse.specs.declared.pair.Operation.{Operation}
use Rattle.crm_parse.specs.Operations.{interval_of, recurs}

-- the interval of an operation that recurs
abbrev pub recurring_in : Operation → List ℕ
recurring_in op = if recurs op then interval_of op.pairs ∷ [] else []

-- the intervals of the operations that recur
abbrev pub recurring : List Operation → List ℕ
recurring ops = flat_map recurring_in ops

-- intervals of monitors that may stand beside each other: at most eight, no two alike. A monitor that recurs has one above 0
pub record MayStandTogether (intervals : List ℕ) : Type 0 where
  pub few : length intervals ≤ 8
  pub above : AllByRecursion (λ interval. 0 < interval) intervals
  pub apart : AllPairs (λ (one other : ℕ). one ≢ other) intervals
