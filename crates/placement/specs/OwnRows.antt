-- The own terms of a leaf on a node, by the states of the cluster (follows from the definition of own terms).
use Rattle.std.specs.Prelude.{ℕ, ◌+◌, ◌*◌, ◌≡◌, Bool, false, ℤ, pos, Option, Some, List, length, slice_get}
use Rattle.std.specs.Option.{option_map_or}
use Rattle.score.specs.Total.{minus_infinity}
use Rattle.score.specs.Row.{Tally}
use Rattle.cluster_types.specs.declared.cluster.Cluster.{Cluster}
use Rattle.cluster_types.specs.declared.leaf.Leaf.{Leaf}
use Rattle.cluster_types.specs.declared.states.Cell.{Cell}
use Rattle.cluster_types.specs.declared.states.States.{States}
use Rattle.cluster_types.specs.Terms.{is_active, is_started}
use Rattle.placement.specs.Locations.{scores_given, is_unnamed}
use Rattle.placement.specs.Rows.{IsRow, more_where}

-- how much the leaf wants to stay
abbrev pub stickiness_of : Cluster → ℕ → ℤ
stickiness_of c r = option_map_or (λ (leaf : Leaf). leaf.stickiness) (slice_get c.leaves r) (pos 0)

module _ (c : Cluster) (states : States) where
  -- what is known of the leaf on the node
  abbrev pub cell_by : ℕ → ℕ → Option Cell
  cell_by r n = slice_get states.cells (r * length c.nodes + n)

  abbrev pub is_active_by : ℕ → ℕ → Bool
  is_active_by r n = option_map_or (λ (cell : Cell). is_active cell.state) (cell_by r n) false

  abbrev pub is_banned_by : ℕ → ℕ → Bool
  is_banned_by r n = option_map_or (λ (cell : Cell). cell.banned) (cell_by r n) false

  -- what its locations give it
  abbrev pub given_by : ℕ → ℕ → List ℤ
  given_by r = scores_given c states.moment is_started r c.locations c.rule_locations

  -- and then its stickiness, where it is active
  abbrev pub sticky_by : ℕ → ℕ → List ℤ
  sticky_by r = more_where (is_active_by r) (stickiness_of c r) (given_by r)

  -- and -INFINITY where it is banned
  abbrev pub banned_by : ℕ → ℕ → List ℤ
  banned_by r = more_where (is_banned_by r) minus_infinity (sticky_by r)

  -- and -INFINITY where a location must name it, and none does: the own terms of the leaf on each node
  abbrev pub own_by : ℕ → ℕ → List ℤ
  own_by r = more_where (is_unnamed c states.moment r) minus_infinity (banned_by r)

  -- a row of own terms for each leaf
  pub record AreOwnRows (rows : List (List Tally)) : Type 0 where
    pub size : length rows ≡ length c.leaves
    pub each : (r : ℕ) (row : List Tally) → slice_get rows r ≡ Some row → IsRow (length c.nodes) (own_by r) row
