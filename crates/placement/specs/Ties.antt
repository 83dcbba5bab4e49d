-- Which leaves must be with a leaf through a chain of ties, as a list of marks, one for each leaf (follows from the definition of ties).
use Rattle.std.specs.Prelude.{◌↔◌, ℕ, Bool, List, length, map, filter, Contains}
use Rattle.std.specs.List.{range_with_len}
use Rattle.cluster_types.specs.declared.cluster.Cluster.{Cluster}
use Rattle.cluster_types.specs.declared.rules.Colocation.{Colocation}
use Rattle.cluster_types.specs.Terms.{is_tie, is_tied}
use Rattle.edges.specs.declared.edge.Edge.{Edge}

-- the tie that a colocation is: an edge from its primary to its dependent
abbrev pub tie_of : Colocation → Edge
tie_of col = record { before = col.primary; after = col.dependent }

-- those of the cluster
abbrev pub ties_of : Cluster → List Edge
ties_of c = map tie_of (filter (is_tie c) c.colocations)

-- the list has exactly the ties of the cluster
pub record AreTies (c : Cluster) (ties : List Edge) : Type 0 where
  pub exact : (tie : Edge) → Contains ties tie ↔ Contains (ties_of c) tie

module _ (c : Cluster) where
  -- for each leaf whether it is tied to r
  abbrev pub tied_leaves : ℕ → List Bool
  tied_leaves r = map (λ s. is_tied c s r) (range_with_len 0 (length c.leaves))
