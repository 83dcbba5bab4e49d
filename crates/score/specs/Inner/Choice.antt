-- The choice of nodes, as it goes on: word by word of a set, and node by node.
use Rattle.std.specs.Prelude.{◌≡◌, ◌≢◌, ℕ, ◌+◌, ◌<◌, nat_lt, ◌&&◌, ℤ, true, false, Option, MatchOption, List}
use Rattle.score.specs.NodeSet.{has, is_set}
use Rattle.score.specs.declared.node_set.NodeSet.{NodeSet}
use Rattle.score.specs.Choice.{has_enough, GoesBefore}

-- a word of bits, for 64 nodes from the first on: those that are set are of nodes below the end, with a total of 0 or more
abbrev pub SaysEnough : List ℤ → ℕ → ℕ → ℕ → Type 0
SaysEnough totals first end word = (k : ℕ) → k < 64 → is_set word k ≡ (nat_lt (first + k) end && has_enough totals (first + k))

-- the node is in the set and below a bound, and goes before each other node of the set below it
pub record IsGreatestBelow (totals : List ℤ) (loads : List ℕ) (among : NodeSet) (bound node : ℕ) : Type 0 where
  pub within : node < bound
  pub member : has among node ≡ true
  pub first : (other : ℕ) → other < bound → has among other ≡ true → other ≢ node → GoesBefore totals loads node other

-- the greatest of the nodes below a bound, if there is one
abbrev pub IsGreatestSoFar : List ℤ → List ℕ → NodeSet → ℕ → Option ℕ → Type 0
IsGreatestSoFar totals loads among bound best =
    MatchOption best ((node : ℕ) → node < bound → has among node ≡ false) (IsGreatestBelow totals loads among bound)
