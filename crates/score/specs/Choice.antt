-- The choice of nodes by their totals.
use Rattle.std.specs.Prelude.{◌≡◌, ◌≢◌, ℕ, ◌<◌, ℤ, pos, ◌<ℤ◌, ◌⊎◌, Bool, true, not, List, slice_index, slice_index_or}
use Rattle.std.specs.Int.{is_negative}
use Rattle.score.specs.NodeSet.{has}
use Rattle.score.specs.declared.node_set.NodeSet.{NodeSet}

-- the points of a node's total
abbrev pub points_at : List ℤ → ℕ → ℤ
points_at totals node = slice_index_or totals node (pos 0)

-- the node's total is 0 or more
abbrev pub has_enough : List ℤ → ℕ → Bool
has_enough totals node = not (is_negative (points_at totals node))

-- the first node has the greater total, or as great a total and the smaller load, or both alike and the smaller number
abbrev pub GoesBefore : List ℤ → List ℕ → ℕ → ℕ → Type 0
GoesBefore totals loads node other =
    (points_at totals other <ℤ points_at totals node)
    ⊎ ((points_at totals node ≡ points_at totals other) × ((slice_index loads node < slice_index loads other) ⊎ ((slice_index loads node ≡ slice_index loads other) × (node < other))))

-- the node is in the set, and goes before each other node of it
pub record IsGreatest (totals : List ℤ) (loads : List ℕ) (among : NodeSet) (node : ℕ) : Type 0 where
  pub member : has among node ≡ true
  pub first : (other : ℕ) → has among other ≡ true → other ≢ node → GoesBefore totals loads node other
