-- The chains of an order of the kind Serialize: where it is local one for each node, and else one for all nodes, which goes by node 0.
use Rattle.std.specs.Prelude.{◌≡◌, ℕ, ◌<◌, ◌==◌, Bool, true, false, Option, Some, None, List, length, slice_get, AllPairs, Contains, ◌⊎◌, ◌∷◌}
use Rattle.std.specs.Option.{option_map_or}
use Rattle.cluster_types.specs.declared.journal.Action.{Action}
use Rattle.cluster_types.specs.declared.rules.Order.{Order}
use Rattle.cluster_types.specs.Precedence.{LeafOnNode, step_cell}
use Rattle.planner.specs.Joins.{in_leaf}

-- one stands before another in a list
pub data StandsBefore (x y : ℕ) : List ℕ → Type 0 where
  here : (places : List ℕ) → Contains places y → StandsBefore x y (x ∷ places)
  later : (place : ℕ) (places : List ℕ) → StandsBefore x y places → StandsBefore x y (place ∷ places)

-- one of the first kind stands before one of the other kind
pub record InChain (is_first is_then : ℕ → Bool) (places : List ℕ) (x y : ℕ) : Type 0 where
  pub first : is_first x ≡ true
  pub then_is : is_then y ≡ true
  pub before : StandsBefore x y places

abbrev pub is_cell_on : ℕ → Option LeafOnNode → Bool
is_cell_on m (Some a) = a.node == m
is_cell_on m None = false

module _ (actions : List Action) where
  -- the action at a position changes a cell of the leaf, on the node that the chain is for
  abbrev pub changes_at : ℕ → Bool → ℕ → ℕ → Bool
  changes_at r local m place = option_map_or (λ a. is_cell_on m (in_leaf r local (step_cell a))) (slice_get actions place) false

  -- two chains say for one node which of two positions comes first
  abbrev pub IsChained : Order → List ℕ → ℕ → ℕ → ℕ → Type 0
  IsChained o places m x y =
      InChain (changes_at o.first o.local m) (changes_at o.then_leaf o.local m) places x y
      ⊎ InChain (changes_at o.then_leaf o.local m) (changes_at o.first o.local m) places x y

module _ (actions : List Action) (is_earlier : Action → Action → Bool) where
  -- of two actions, if both are there, the one is the earlier; and of those at two positions
  abbrev pub earlier_of : Option Action → Option Action → Bool
  earlier_of (Some a) (Some b) = is_earlier a b
  earlier_of _ _ = false

  abbrev pub is_earlier_at : ℕ → ℕ → Bool
  is_earlier_at x y = earlier_of (slice_get actions x) (slice_get actions y)

  -- positions in the order of numbers, among them those of all steps of an order's leaves
  pub record ArePlacesInOrder (o : Order) (places : List ℕ) : Type 0 where
    pub in_order : AllPairs (λ x y. is_earlier_at x y ≡ true) places
    pub first_there : (m i : ℕ) → i < length actions → changes_at actions o.first o.local m i ≡ true → Contains places i
    pub then_there : (m i : ℕ) → i < length actions → changes_at actions o.then_leaf o.local m i ≡ true → Contains places i
