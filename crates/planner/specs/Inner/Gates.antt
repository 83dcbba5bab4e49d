-- The edges of joins and of chains, through gates.
use Rattle.std.specs.Prelude.{ℕ, ◌+◌, ◌*◌, Bool, if◌then◌else◌, Option, Some, None, List, ◌∷◌, ◌++◌, slice_get, []}
use Rattle.std.specs.List.{flat_map}
use Rattle.std.specs.Option.{option_map_or}
use Rattle.cluster_types.specs.declared.cluster.Cluster.{Cluster}
use Rattle.edges.specs.declared.edge.Edge.{Edge}
use Rattle.cluster_types.specs.declared.journal.Action.{Action}
use Rattle.cluster_types.specs.Precedence.{LeafOnNode}
use Rattle.planner.specs.declared.precedence.sides.Join.{Join}
use Rattle.planner.specs.declared.precedence.sides.Side.{Side}
use Rattle.planner.specs.Joins.{side_key_of}

abbrev pub edge : ℕ → ℕ → Edge
edge x y = record { before = x; after = y }

-- by which cell the action at a position stands on a side
abbrev pub key_at : Cluster → List Action → Side → ℕ → Option LeafOnNode
key_at c actions side place = option_map_or (side_key_of c actions side) (slice_get actions place) None

module _ (base width : ℕ) where
  -- each cell of a join has a gate: those of one leaf stand together
  abbrev pub gate_of : LeafOnNode → ℕ
  gate_of a = base + (a.leaf * width + a.node)

  abbrev pub edge_in : Option LeafOnNode → ℕ → List Edge
  edge_in (Some a) place = edge place (gate_of a) ∷ []
  edge_in None place = []

  abbrev pub edge_out : Option LeafOnNode → ℕ → List Edge
  edge_out (Some a) place = edge (gate_of a) place ∷ []
  edge_out None place = []

  -- the edges of one action, by its cells on the two sides
  abbrev pub gate_edges_at : (ℕ → Option LeafOnNode) → (ℕ → Option LeafOnNode) → ℕ → List Edge
  gate_edges_at from to place = edge_in (from place) place ++ edge_out (to place) place

  -- the edges of a join, over some positions
  abbrev pub join_edges : (ℕ → Option LeafOnNode) → (ℕ → Option LeafOnNode) → List ℕ → List Edge
  join_edges from to places = flat_map (gate_edges_at from to) places

-- the edges of some joins, each with gates of its own. How many leaves and nodes the cells of a join have, and at which positions its actions stand, is
-- given with it
module _ (c : Cluster) (actions : List Action) (leaves width : Join → ℕ) (places : Join → List ℕ) where
  abbrev pub edges_of_joins : ℕ → List Join → List Edge
  edges_of_joins base [] = []
  edges_of_joins base (j ∷ js) =
      join_edges base (width j) (key_at c actions j.from) (key_at c actions j.to) (places j) ++ edges_of_joins (base + width j * leaves j) js

  abbrev pub gates_upto : ℕ → List Join → ℕ
  gates_upto base [] = base
  gates_upto base (j ∷ js) = gates_upto (base + width j * leaves j) js

-- a chain of gates from one on, over positions in the order of numbers: each of the first kind leads to each of the other kind behind it. The gate before a
-- position collects all of the first kind that stand before it
module _ (is_first is_then : ℕ → Bool) where
  abbrev pub chain_step : ℕ → ℕ → List Edge
  chain_step gate place = if is_first place then edge place (gate + 1) ∷ edge gate (gate + 1) ∷ [] else []

  abbrev pub next_gate : ℕ → ℕ → ℕ
  next_gate gate place = if is_first place then gate + 1 else gate

  abbrev pub then_step : ℕ → ℕ → List Edge
  then_step gate place = if is_then place then edge gate place ∷ [] else []

  abbrev pub chain_edges : ℕ → List ℕ → List Edge
  chain_edges gate [] = []
  chain_edges gate (place ∷ places) = (then_step gate place ++ chain_step gate place) ++ chain_edges (next_gate gate place) places

  abbrev pub last_gate : ℕ → List ℕ → ℕ
  last_gate gate [] = gate
  last_gate gate (place ∷ places) = last_gate (next_gate gate place) places
