-- The lines of what was chosen and is held back, cell by cell (follows from the definition of all of them).
use Rattle.std.specs.Prelude.{ℕ, List, length}
use Rattle.std.specs.List.{flat_map, range_with_len}
use Rattle.cluster_types.specs.declared.cluster.Cluster.{Cluster}
use Rattle.cluster_types.specs.Tables.{Targets}
use Rattle.decision_account.specs.Accounts.{holder_lines, why_text}
use Rattle.decision_account.specs.Holders.{held_decision}

module _ (c : Cluster) (taken targets : Targets) where
  abbrev pub cell_text : ℕ → ℕ → List ℕ
  cell_text r n = why_text c (holder_lines c taken targets n (held_decision taken targets r n))

  abbrev pub leaf_text : ℕ → List ℕ
  leaf_text r = flat_map (cell_text r) (range_with_len 0 (length c.nodes))
