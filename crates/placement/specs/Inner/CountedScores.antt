-- The scores of some colocations that count for a decision on a node (follows from the definition of preference).
use Rattle.std.specs.Prelude.{ℕ, ℤ, List, map, filter}
use Rattle.cluster_types.specs.declared.placement.Decision.{Decision}
use Rattle.cluster_types.specs.declared.rules.Colocation.{Colocation}
use Rattle.cluster_types.specs.Tables.{Targets}
use Rattle.placement.specs.Tests.{counts}

abbrev pub counted_scores : Targets → Decision → List Colocation → ℕ → List ℤ
counted_scores table d cols n = map (λ (col : Colocation). col.score) (filter (counts table d n) cols)
