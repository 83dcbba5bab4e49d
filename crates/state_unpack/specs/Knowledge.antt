use Rattle.std.specs.Prelude.{Bool, length, nat_le}
use Rattle.std.specs.List.{list_all}
use Rattle.cluster_types.specs.declared.cluster.Cluster.{Cluster}
use Rattle.cluster_types.specs.declared.leaf.Leaf.{Leaf}

-- no leaf has more than eight recurring monitors
abbrev pub has_few_monitors : Cluster → Bool
has_few_monitors c = list_all (λ (leaf : Leaf). nat_le (length leaf.monitors) 8) c.leaves
