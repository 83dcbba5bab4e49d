-- What the edges of a join ask for.
use Rattle.std.specs.Prelude.{◌≡◌, ℕ, ◌<◌, Bool, true, false, Some, List, length, Contains}
use Rattle.std.specs.Coded.{Π_prop, →_prop, le_prop}
use Rattle.cluster_types.specs.declared.cluster.Cluster.{Cluster}
use Rattle.cluster_types.specs.declared.journal.Action.{Action}
use Rattle.cluster_types.specs.Precedence.{LeafOnNode}
use Rattle.edges.specs.declared.edge.Edge.{Edge}
use Rattle.cluster_types.specs.declared.journal.Action.TheVariants.{Fence, Probe, Operation, MigrateTo, MigrateFrom}
use Rattle.planner.specs.declared.precedence.sides.Join.{Join}
use Rattle.planner.specs.declared.precedence.sides.Side.{Side}
use Rattle.planner.specs.declared.precedence.sides.Side.TheVariants as side
use Rattle.planner.specs.Inner.Gates.{edges_of_joins, gate_of, gates_upto, key_at}
use Rattle.planner.specs.ActionNames.{IsActionWithin}

-- each cell of a join has a gate whose number has 32 bits
pub record GatesHaveRoom (c : Cluster) (actions : List Action) (j : Join) (base width : ℕ) : Type 0 where
  pub from : (place : ℕ) (a : LeafOnNode) → key_at c actions j.from place ≡ Some a → gate_of base width a < 4294967296
  pub to : (place : ℕ) (a : LeafOnNode) → key_at c actions j.to place ≡ Some a → gate_of base width a < 4294967296

within_prop : (c : Cluster) (a : Action) → IsProp (IsActionWithin c a)
within_prop c (Fence n) x y = le_prop x y
within_prop c (Probe r n) x y = λ i. (le_prop x.0 y.0 i, le_prop x.1 y.1 i)
within_prop c (Operation o r n interval role) x y = λ i. (le_prop x.0 y.0 i, le_prop x.1 y.1 i)
within_prop c (MigrateTo r source target) x y = λ i. (le_prop x.0 y.0 i, le_prop x.1 y.1 i, le_prop x.2 y.2 i)
within_prop c (MigrateFrom r source target) x y = λ i. (le_prop x.0 y.0 i, le_prop x.1 y.1 i, le_prop x.2 y.2 i)

pub all_within_prop : (c : Cluster) (actions : List Action) → IsProp ((a : Action) → Contains actions a → IsActionWithin c a)
all_within_prop c actions = Π_prop (λ a. →_prop (within_prop c a))

-- how many leaves and nodes the cells of a side have
abbrev pub rows_of : Cluster → Side → ℕ
rows_of c side.Probes = length c.leaves
rows_of c side.Gives = length c.leaves
rows_of c side.StopsAlone = length c.leaves
rows_of c side.StartsAlone = length c.leaves
rows_of c side.BeforeStops = length c.leaves
rows_of c side.Stops = length c.leaves
rows_of c side.Starts = length c.leaves
rows_of c side.Promotes = length c.leaves
rows_of c side.BeforeMonitors = length c.leaves
rows_of c side.Monitors = length c.leaves
rows_of c side.Takes = length c.leaves
rows_of c side.PromotesOf = length c.leaves
rows_of c side.Sends = length c.leaves
rows_of c side.TakesIn = length c.leaves
rows_of c _ = 1

abbrev pub nodes_if : Cluster → Bool → ℕ
nodes_if c true = length c.nodes
nodes_if c false = 1

abbrev pub width_of : Cluster → Side → ℕ
width_of c side.StopsAlone = length c.nodes
width_of c side.StartsAlone = length c.nodes
width_of c side.BeforeStops = length c.nodes
width_of c side.Stops = length c.nodes
width_of c side.Starts = length c.nodes
width_of c side.Promotes = length c.nodes
width_of c side.BeforeMonitors = length c.nodes
width_of c side.Monitors = length c.nodes
width_of c (side.Parts r role) = length c.nodes
width_of c (side.GivesRole r role) = length c.nodes
width_of c (side.Earlier r word local) = nodes_if c local
width_of c (side.EarlierTakers r word local) = nodes_if c local
width_of c (side.Later r word local) = nodes_if c local
width_of c (side.LaterTakers r word local) = nodes_if c local
width_of c _ = 1

-- both sides of a join have as many
abbrev pub rows_of_join : Cluster → Join → ℕ
rows_of_join c j = rows_of c j.from

abbrev pub width_of_join : Cluster → Join → ℕ
width_of_join c j = width_of c j.from

-- the edges that were built so far are those of some joins
pub record Builds (c : Cluster) (actions : List Action) (places : Join → List ℕ) (list : List Edge) (base : ℕ) (js : List Join) : Type 0 where
  pub list_is : list ≡ edges_of_joins c actions (rows_of_join c) (width_of_join c) places (length actions) js
  pub base_is : base ≡ gates_upto c actions (rows_of_join c) (width_of_join c) places (length actions) js

-- both sides of the join have as many leaves and nodes
pub record IsEven (c : Cluster) (j : Join) : Type 0 where
  pub rows : rows_of c j.to ≡ rows_of c j.from
  pub width : width_of c j.to ≡ width_of c j.from
