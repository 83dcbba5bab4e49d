-- The nodes and leaves of a cluster by their names. In a valid cluster no two nodes have one name, and no two leaves, so the first of a name is
-- the one of this name.
use Rattle.std.specs.Prelude.{ℕ, List, Option, position}
use Rattle.crm_lex.specs.Names.{is}
use Rattle.cluster_types.specs.declared.cluster.Cluster.{Cluster}
use Rattle.cluster_types.specs.declared.leaf.Leaf.{Leaf}
use Rattle.cluster_types.specs.declared.node.Node.{Node}

-- the node of this name
abbrev pub node_of_word : Cluster → List ℕ → Option ℕ
node_of_word c word = position (λ (node : Node). is node.name word) c.nodes

-- the leaf of this name
abbrev pub leaf_of_word : Cluster → List ℕ → Option ℕ
leaf_of_word c word = position (λ (leaf : Leaf). is leaf.name word) c.leaves
