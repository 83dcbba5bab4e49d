-- The positions of an order of the kind Serialize, in the order of numbers.
use Rattle.std.specs.Prelude.{◌↔◌, ℕ, ◌<◌, ◌≤◌, ◌+◌, ◌*◌, All, Bool, if◌then◌else◌, List, count_by, length, Contains}
use Rattle.std.specs.List.Sorted.{IsStrictlyIncreasing}
use Rattle.cluster_types.specs.declared.journal.Action.{Action}
use Rattle.cluster_types.specs.declared.rules.Order.{Order}
use Rattle.cluster_types.specs.Plans.{is_of_either}
use Rattle.cluster_types.specs.Precedence.{is_serialize}
use Rattle.planner.specs.Chains.{ArePlacesInOrder}

-- the numbers of a list, ascending, each once
pub record AreAscending (all numbers : List ℕ) : Type 0 where
  pub ascending : IsStrictlyIncreasing numbers
  pub same : (k : ℕ) → Contains all k ↔ Contains numbers k
  pub few : length numbers ≤ length all

-- the positions of an order's actions are in the order of numbers, and no more than its leaves have
pub record AreSerials (actions : List Action) (is_earlier : Action → Action → Bool) (o : Order) (places : List ℕ) : Type 0 where
  pub in_order : ArePlacesInOrder actions is_earlier o places
  pub within : All (λ place. place < length actions) places
  pub few : length places ≤ count_by (is_of_either o.first o.then_leaf) actions

-- how many edges an order has at most, if it is of the kind Serialize
abbrev pub most_serial : List Action → Order → ℕ
most_serial actions o = if is_serialize o.kind then 4 * count_by (is_of_either o.first o.then_leaf) actions else 0

-- how many gates
abbrev pub serial_room : List Action → Order → ℕ
serial_room actions o = 2 * (count_by (is_of_either o.first o.then_leaf) actions + 256)
