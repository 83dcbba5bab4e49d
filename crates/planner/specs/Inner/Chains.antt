-- The chains of an order of the kind Serialize, as they are built: by node, and by positions (follows from what a chain is).
use Rattle.std.specs.Prelude.{◌≡◌, ℕ, ◌<◌, ◌==◌, Bool, false, Option, Some, None, List, slice_get, filter, unwrap_or, []}
use Rattle.std.specs.Option.{option_map_or}
use Rattle.cluster_types.specs.declared.journal.Action.{Action}
use Rattle.cluster_types.specs.declared.rules.Order.{Order}
use Rattle.cluster_types.specs.Precedence.{LeafOnNode, step_cell, is_serialized}
use Rattle.planner.specs.declared.precedence.chains.Changes.{Changes}
use Rattle.planner.specs.Chains.{changes_at, IsChained}

-- the node of the cell that an action changes
abbrev pub changed_node : Option LeafOnNode → Option ℕ
changed_node (Some a) = Some a.node
changed_node None = None

abbrev pub is_at : ℕ → Option ℕ → Bool
is_at m (Some n) = n == m
is_at m None = false

module _ (actions : List Action) where
  abbrev pub changes_by : Changes → ℕ → Bool
  changes_by s place = changes_at actions s.leaf s.local s.node place

  abbrev pub IsChainedSomewhere : Order → List ℕ → ℕ → ℕ → Type 0
  IsChainedSomewhere o places x y = (m : ℕ) × IsChained actions o places m x y

  -- the node of the cell that the action at a position changes
  abbrev pub changed_node_at : ℕ → Option ℕ
  changed_node_at place = option_map_or (λ a. changed_node (step_cell a)) (slice_get actions place) None

  -- the positions at which a cell on the node changes
  abbrev pub node_places : ℕ → List ℕ → List ℕ
  node_places m places = filter (λ i. is_at m (changed_node_at i)) places

  -- of each of so many nodes the bucket has its positions
  abbrev pub AreBuckets : List ℕ → ℕ → List (List ℕ) → Type 0
  AreBuckets places nodes buckets = (m : ℕ) → m < nodes → unwrap_or (slice_get buckets m) [] ≡ node_places m places

module _ (actions : List Action) (is_earlier : Action → Action → Bool) where
  -- an order of the kind Serialize says which of two positions comes first
  abbrev pub serialized_of : Order → Option Action → Option Action → Bool
  serialized_of o (Some a) (Some b) = is_serialized is_earlier o a b
  serialized_of o _ _ = false

  abbrev pub serialized_at : ℕ → ℕ → Order → Bool
  serialized_at x y o = serialized_of o (slice_get actions x) (slice_get actions y)
