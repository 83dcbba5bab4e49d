-- Edges that say what must precede what.
use Rattle.std.specs.Prelude.{◌≡◌, ◌↔◌, ◌<◌, ◌≤◌, ℕ, Bool, true, List, Some, length, slice_get}
use Rattle.cluster_types.specs.declared.cluster.Cluster.{Cluster}
use Rattle.cluster_types.specs.declared.graph_edges.Edges.{Edges}
use Rattle.cluster_types.specs.declared.journal.Action.{Action}
use Rattle.cluster_types.specs.Graphs.{GraphOf, LeadUpward, LeadsByGates}
use Rattle.edges.specs.Loops.{EndsWithin}
use Rattle.cluster_types.specs.Plans.{AreFewEdges}
use Rattle.cluster_types.specs.Precedence.{must_precede}

-- the edges lead from one action to another, directly or through gates alone, just where the one must precede the other; they and their positions are few,
-- and they stand between these; those to gates lead upward
pub record AreEdges (c : Cluster) (actions : List Action) (is_earlier : Action → Action → Bool) (edges : Edges) : Type 0 where
  pub leads : (x y : ℕ) (a b : Action) → x < length actions → y < length actions → slice_get actions x ≡ Some a → slice_get actions y ≡ Some b
      → LeadsByGates (length actions) edges.list x y ↔ (must_precede c actions is_earlier a b ≡ true)
  pub positions : length actions ≤ edges.positions
  pub within : EndsWithin edges.positions edges.list
  pub upward : LeadUpward (length actions) edges.list
  pub few : AreFewEdges c actions edges

abbrev pub graph_by : List Action → Edges → GraphOf
graph_by actions edges = record { actions = actions; edges = edges }
