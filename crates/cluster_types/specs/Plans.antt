-- The plan for a journal: where everything goes, what has to be done for it, and in which order (Pacemaker Administration, "Transitions").
use Rattle.std.specs.Prelude.{◌≡◌, ◌≤◌, ◌<◌, ℕ, ◌*◌, Bool, false, Option, Some, List, [], ◌∷◌, length, map, count_by, sum_by, ◌+◌, ◌==◌, ◌||◌}
use Rattle.std.specs.List.{range_with_len}
use Rattle.cluster_types.specs.declared.cluster.Cluster.{Cluster}
use Rattle.cluster_types.specs.declared.graph_edges.Edges.{Edges}
use Rattle.cluster_types.specs.declared.journal.Action.{Action}
use Rattle.cluster_types.specs.declared.journal.Action.TheVariants.{Fence, Probe, Operation, MigrateTo, MigrateFrom}
use Rattle.cluster_types.specs.declared.journal.Event.{Event}
use Rattle.cluster_types.specs.declared.journal.Promotion.{Promotion}
use Rattle.cluster_types.specs.declared.placement.Decided.{Decided}
use Rattle.cluster_types.specs.declared.placement.Decision.{Decision}
use Rattle.cluster_types.specs.declared.placement.Placed.{Placed}
use Rattle.cluster_types.specs.declared.rules.Colocation.{Colocation}
use Rattle.cluster_types.specs.declared.rules.Order.{Order}
use Rattle.cluster_types.specs.Choice.{after_decision, after_decisions, total_on}
use Rattle.cluster_types.specs.Decisions.{Decides}
use Rattle.cluster_types.specs.Graphs.{GraphOf, is_before}
use Rattle.cluster_types.specs.Held.{AreTargets}
use Rattle.cluster_types.specs.NeededActions.{Needed}
use Rattle.cluster_types.specs.Numbers.{AreNumbered, is_earlier}
use Rattle.cluster_types.specs.Pins.{pin_of, pinned_targets}
use Rattle.cluster_types.specs.Precedence.{must_precede}
use Rattle.cluster_types.specs.Reasons.{HasReason, leaf_reason}
use Rattle.cluster_types.specs.Steps.{Transition, numbered}
use Rattle.cluster_types.specs.Tables.{Targets, targets_of}

module _ (c : Cluster) (es : List Event) (promotions : List Promotion) where
  -- each decision with its total on each node, by the table that those before it left
  abbrev pub with_totals : Targets → List Decision → List Decided
  with_totals table [] = []
  with_totals table (d ∷ ds) =
      record { decision = d; totals = map (total_on c es promotions table d) (range_with_len 0 (length c.nodes)) }
      ∷ with_totals (after_decision c es promotions table d) ds

  -- where everything goes, and why: the pinned leaves stay, the decisions choose in their order, what is held is taken away again, and a leaf
  -- without a target that isn't pinned has its reason
  pub record IsPlaced (placed : Placed) : Type 0 where
    pub decisions : List Decision
    pub in_order : Decides c es promotions [] decisions
    pub pins : placed.pins ≡ map (pin_of c es) (range_with_len 0 (length c.leaves))
    pub decided : placed.decided ≡ with_totals (pinned_targets c es) decisions
    pub nodes : placed.table.nodes ≡ length c.nodes
    pub cells : length placed.table.targets ≡ length c.leaves * length c.nodes
    pub targets : AreTargets c es (after_decisions c es promotions (pinned_targets c es) decisions) (targets_of placed.table)
    pub leaves : length placed.none ≡ length c.leaves
    pub reasons : (r : ℕ) → r < length c.leaves
        → HasReason c es (after_decisions c es promotions (pinned_targets c es) decisions) (targets_of placed.table) r (leaf_reason placed.none r)

  -- the plan: what is placed, and the actions that are needed for it, in the order of their numbers
  pub record IsPlan (placed : Placed) (actions : List Action) : Type 0 where
    pub goals : IsPlaced placed
    pub numbered : AreNumbered c (Needed c es (targets_of placed.table)) actions

-- of the actions of two numbers, if both are there, the one must have succeeded before the other begins
abbrev pub precedes_by_number : Cluster → List Action → Option Action → Option Action → Bool
precedes_by_number c actions (Some x) (Some y) = must_precede c actions (is_earlier c actions) x y
precedes_by_number c actions _ _ = false

-- the transition that carries a plan out, by its actions alone
abbrev pub transition_of : Cluster → List Event → List Action → Transition
transition_of c es actions = record {
  cluster = c;
  actions = actions;
  precedes = λ j k. precedes_by_number c actions (numbered actions j) (numbered actions k);
  planned_at = es;
}

-- the transition that carries a graph out
abbrev pub transition_on : Cluster → GraphOf → List Event → Transition
transition_on c g es = record { cluster = c; actions = g.actions; precedes = is_before g; planned_at = es }

-- the action is of this leaf or of that one
abbrev pub is_of_either : ℕ → ℕ → Action → Bool
is_of_either r s (Fence n) = false
is_of_either r s (Probe leaf n) = leaf == r || leaf == s
is_of_either r s (Operation op leaf n interval role) = leaf == r || leaf == s
is_of_either r s (MigrateTo leaf source target) = leaf == r || leaf == s
is_of_either r s (MigrateFrom leaf source target) = leaf == r || leaf == s

-- how many edges the graph of some actions may have: eight for each action, and for each colocation and order four more for each action of its leaves
-- (rule of this project)
abbrev pub most_edges : Cluster → List Action → ℕ
most_edges c actions =
    8 * length actions
    + sum_by (λ (col : Colocation). 4 * count_by (is_of_either col.dependent col.primary) actions) c.colocations
    + sum_by (λ (o : Order). 4 * count_by (is_of_either o.first o.then_leaf) actions) c.orders

-- how many gates there are for what hangs on no rule: four for each leaf on each node, three for each leaf, and one (rule of this project)
abbrev pub first_gates : Cluster → ℕ
first_gates c = 1 + 3 * length c.leaves + 4 * (length c.nodes * length c.leaves)

-- how many positions the edges between some actions may have: as many as there may be edges, and these gates; for each colocation two more for each of 256
-- nodes, and for each order four (rule of this project)
abbrev pub most_positions : Cluster → List Action → ℕ
most_positions c actions =
    most_edges c actions + first_gates c + 512 * length c.colocations + 1024 * length c.orders

-- the edges and their positions are no more than that
pub record AreFewEdges (c : Cluster) (actions : List Action) (edges : Edges) : Type 0 where
  pub list : length edges.list ≤ most_edges c actions
  pub positions : edges.positions ≤ most_positions c actions

-- the graph has the actions of a plan and few edges, and of two numbers the one comes before the other just when its action must precede
pub record CarriesOut (c : Cluster) (es : List Event) (promotions : List Promotion) (placed : Placed) (g : GraphOf) : Type 0 where
  pub plan : IsPlan c es promotions placed g.actions
  pub pairs : (j k : ℕ) → is_before g j k ≡ precedes_by_number c g.actions (numbered g.actions j) (numbered g.actions k)
  pub few : AreFewEdges c g.actions g.edges
