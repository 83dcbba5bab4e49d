-- Sets of names in first-seen order.
use Rattle.std.specs.Prelude.{◌≡◌, ℕ, List, map}
use Rattle.std.specs.Borrow.{Bor}
use Rattle.cluster_types.specs.declared.cluster.Cluster.{Cluster}
use Rattle.cluster_types.specs.declared.leaf.Leaf.{Leaf}
use Rattle.cluster_types.specs.declared.node.Node.{Node}
use Rattle.cluster_types.specs.Valid.{IsValid}
use Rattle.indexmap.specs.IndexSet.{IndexSet}

-- the names that a set borrows, in its order
abbrev pub borrowed_names : {S : Type 0} → IndexSet (Bor (List ℕ)) S → List (List ℕ)
borrowed_names set = map (λ (name : Bor (List ℕ)). name.now) set.keys

abbrev pub node_names : List Node → List (List ℕ)
node_names nodes = map (λ (node : Node). node.name) nodes

abbrev pub leaf_names : List Leaf → List (List ℕ)
leaf_names leaves = map (λ (leaf : Leaf). leaf.name) leaves

-- the sets have the names of the nodes and of the leaves, in the order of their numbers
pub record AreNamesOf {S T : Type 0} (nodes : IndexSet (Bor (List ℕ)) S) (leaves : IndexSet (Bor (List ℕ)) T) (c : Cluster) : Type 0 where
  pub valid : IsValid c
  pub nodes_in_order : borrowed_names nodes ≡ node_names c.nodes
  pub leaves_in_order : borrowed_names leaves ≡ leaf_names c.leaves
