-- Which action of a graph comes before which, by edges and gates (rule of this project).
use Rattle.std.specs.Prelude.{◌≡◌, nat_lt, ℕ, ◌-◌, ◌<◌, ◌≤◌, nat_le, ◌&&◌, Bool, true, List, length, filter, Contains}
use Rattle.std.specs.List.{range_with_len}
use Rattle.edges.specs.declared.edge.Edge.{Edge}
use Rattle.edges.specs.Chains.{ChainThrough, leads_through}
use Rattle.edges.specs.Loops.{EndsWithin, IsEdge, is_edge}
use Rattle.cluster_types.specs.declared.graph_edges.Edges.{Edges}
use Rattle.cluster_types.specs.declared.journal.Action.{Action}

-- the actions in the order of their numbers, and edges between positions: those of the actions from 0, and then gates
pub record GraphOf : Type 0 where
  pub actions : List Action
  pub edges : Edges

-- from position x edges lead to position y through gates alone. Gates are the positions from this count of actions on
abbrev pub LeadsByGates : ℕ → List Edge → ℕ → ℕ → Type 0
LeadsByGates actions edges x y = ChainThrough (λ via. actions ≤ via) (IsEdge edges) x y

-- the number of an action
abbrev pub is_action_number : GraphOf → ℕ → Bool
is_action_number g x = nat_lt 0 x && nat_le x (length g.actions)

-- the gates of a graph: the positions behind those of its actions
abbrev pub gates : GraphOf → List ℕ
gates g = filter (λ x. nat_le (length g.actions) x) (range_with_len 0 g.edges.positions)

-- the action of number x comes before that of number y: edges lead from its position to the other's, at once or through gates alone
pub record IsBefore (g : GraphOf) (x y : ℕ) : Type 0 where
  pub earlier : is_action_number g x ≡ true
  pub later : is_action_number g y ≡ true
  pub leads : LeadsByGates (length g.actions) g.edges.list (x - 1) (y - 1)

-- the same as a test: at once, or through some of the gates (`paths_are_computed`)
abbrev pub is_before : GraphOf → ℕ → ℕ → Bool
is_before g x y = is_action_number g x && is_action_number g y && leads_through (is_edge g.edges.list) (gates g) (x - 1) (y - 1)

-- an edge to a gate leads upward
abbrev pub LeadUpward : ℕ → List Edge → Type 0
LeadUpward actions edges = (e : Edge) → Contains edges e → actions ≤ e.after → e.before < e.after

-- which edges make a graph: they stand between its positions, and lead from gate to gate and from action to action only upward. So they have
-- no loop
pub record IsGraph (g : GraphOf) : Type 0 where
  pub positions : length g.actions ≤ g.edges.positions
  pub within : EndsWithin g.edges.positions g.edges.list
  pub gates_upward : LeadUpward (length g.actions) g.edges.list
  pub actions_upward : (x y : ℕ) → x < length g.actions → y < length g.actions → LeadsByGates (length g.actions) g.edges.list x y → x < y
