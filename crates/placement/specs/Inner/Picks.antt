-- The nodes that are picked among some, each the first of those that were left.
use Rattle.std.specs.Prelude.{◌≡◌, ℕ, ◌≤◌, ℤ, true, false, List, length, count_by}
use Rattle.std.specs.List.{range_with_len}
use Rattle.score.specs.Choice.{GoesBefore}
use Rattle.score.specs.NodeSet.{has}
use Rattle.score.specs.declared.node_set.NodeSet.{NodeSet}

-- how many nodes are in a set, of so many
abbrev pub size_of : ℕ → NodeSet → ℕ
size_of nodes set = count_by (has set) (range_with_len 0 nodes)

-- each that was picked goes before each that is left, and as many were picked as the cap, or all
pub record ArePicked (totals : List ℤ) (loads : List ℕ) (among : NodeSet) (cap : ℕ) (picked : NodeSet) : Type 0 where
  pub fits : (n : ℕ) → has picked n ≡ true → has among n ≡ true
  pub first : (n m : ℕ) → has picked n ≡ true → has among m ≡ true → has picked m ≡ false → GoesBefore totals loads n m
  pub most : size_of (length totals) picked ≤ cap
  pub enough : (n : ℕ) → has among n ≡ true → has picked n ≡ false → cap ≤ size_of (length totals) picked
