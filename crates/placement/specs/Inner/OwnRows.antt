-- Own terms of several leaves, and how many there are (follows from the definition of own terms).
use Rattle.std.specs.Prelude.{ℕ, ◌+◌, ◌==◌, ℤ, List, count_by, sum_by}
use Rattle.std.specs.List.{flat_map, range_with_len}
use Rattle.cluster_types.specs.declared.cluster.Cluster.{Cluster}
use Rattle.cluster_types.specs.declared.rules.Location.{Location}
use Rattle.cluster_types.specs.declared.rules.RuleLocation.{RuleLocation}
use Rattle.cluster_types.specs.declared.states.States.{States}
use Rattle.placement.specs.OwnRows.{own_by}

module _ (c : Cluster) (states : States) where
  -- the own terms of some leaves on a node
  abbrev pub terms_by : List ℕ → ℕ → List ℤ
  terms_by leaves n = flat_map (λ r. own_by c states r n) leaves

module _ (c : Cluster) where
  -- at most so many of the own terms of a leaf on a node are finite
  abbrev pub own_size : ℕ → ℕ
  own_size r = count_by (λ (l : Location). l.leaf == r) c.locations + count_by (λ (rl : RuleLocation). rl.leaf == r) c.rule_locations + 1

  -- and so many of those of all leaves below one
  abbrev pub size_below : ℕ → ℕ
  size_below s = sum_by own_size (range_with_len 0 s)
