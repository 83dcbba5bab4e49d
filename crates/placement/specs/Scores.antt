-- The totals of all cells, put together (follows from the definition of a decision's base).
use Rattle.std.specs.Prelude.{ℕ, ◌+◌, ◌*◌, nat_lt, if◌then◌else◌, ℤ, pos, List, length, map, slice_index_or}
use Rattle.std.specs.List.{flat_map, range_with_len}
use Rattle.cluster_types.specs.declared.cluster.Cluster.{Cluster}
use Rattle.cluster_types.specs.declared.journal.Event.{Event}
use Rattle.cluster_types.specs.declared.journal.Promotion.{Promotion}
use Rattle.cluster_types.specs.declared.placement.Decision.{Decision}
use Rattle.cluster_types.specs.declared.placement.Decision.TheVariants.{Place, Promote}
use Rattle.cluster_types.specs.Terms.{base}
use Rattle.placement.specs.declared.totals.table.ScoreTable.{ScoreTable}

-- a list of all cells, leaf by leaf, node by node
abbrev pub cells_of : {X : Type 0} → Cluster → (ℕ → ℕ → X) → List X
cells_of c f = flat_map (λ r. map (f r) (range_with_len 0 (length c.nodes))) (range_with_len 0 (length c.leaves))

-- the totals of all decisions, before colocations
abbrev pub scores_of : Cluster → List Event → List Promotion → ScoreTable
scores_of c es promotions = record {
  nodes = length c.nodes;
  places = cells_of c (λ r. base c es promotions (Place r));
  promotes = cells_of c (λ r. base c es promotions (Promote r));
}

-- the score of a leaf on a node in a list of those of so many nodes, and 0 where it has none
abbrev pub score_in_list : List ℤ → ℕ → ℕ → ℕ → ℤ
score_in_list scores nodes r n = if nat_lt n nodes then slice_index_or scores (r * nodes + n) (pos 0) else pos 0

-- the base of a decision on a node
abbrev pub score_in : ScoreTable → Decision → ℕ → ℤ
score_in table (Place r) n = score_in_list table.places table.nodes r n
score_in table (Promote r) n = score_in_list table.promotes table.nodes r n
