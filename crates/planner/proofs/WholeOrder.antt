-- Sorted actions of a plan have edges, and with them are a graph.
use Rattle.std.proofs.Common.{arith, ◌≡◌, ◌≤◌, true, List, AllPairs, Contains}
use Rattle.std.specs.List.Sorted.{IsPermutation}
use Rattle.cluster_types.specs.declared.cluster.Cluster.{Cluster}
use Rattle.cluster_types.specs.declared.graph_edges.Edges.{Edges}
use Rattle.cluster_types.specs.declared.journal.Action.{Action}
use Rattle.cluster_types.specs.Graphs.{IsGraph}
use Rattle.cluster_types.specs.NeededActions.{Needed}
use Rattle.cluster_types.specs.Numbers.{is_earlier}
use Rattle.cluster_types.specs.Plans.{most_edges}
use Rattle.cluster_types.specs.Tables.{targets_of}
use Rattle.cluster_types.specs.Valid.{IsValid}
use Rattle.planner.specs.PrecedenceEdges.{AreEdges, graph_by}
use Rattle.planner.specs.ActionNames.{IsActionWithin}
use Rattle.planner.proofs.NeededWithin.{needed_within}
use Rattle.planner.proofs.Upward.{is_graph}
use Rattle.plan_laws.proofs.LowerNumbers.{promotable_target}
use Rattle.planner.specs.PlannedActions.{AreOfSomePlan}
use Rattle.planner.proofs.Few.{few_edges}
use Rattle.planner.proofs.Sorted.{numbered_by, planned_still}

-- planned actions are within the cluster
pub planned_within : (c : Cluster) (actions : List Action) → AreOfSomePlan c actions → (a : Action) → Contains actions a → IsActionWithin c a
planned_within c actions planned a h = needed_within c planned.events (targets_of planned.placed.table) a ((planned.needed.needed a).0 h)

module _ (c : Cluster) (valid : IsValid c) (xs ys : List Action) (planned : AreOfSomePlan c xs) (moved : IsPermutation xs ys)
    (up : AllPairs (λ x y. is_earlier c ys x y ≡ true) ys) where
  still : AreOfSomePlan c ys
  still = planned_still c valid xs ys planned moved up

  pub few : most_edges c ys ≤ 2000000000
  few = let e = few_edges c ys valid still in omega arith

  pub inside : (a : Action) → Contains ys a → IsActionWithin c a
  inside = planned_within c ys still

  pub graph : (edges : Edges) → AreEdges c ys (is_earlier c ys) edges → IsGraph (graph_by ys edges)
  graph edges are =
      is_graph c planned.events (targets_of planned.placed.table) ys edges valid
      (promotable_target c planned.events planned.promotions planned.placed planned.goals)
      (numbered_by c valid xs ys planned moved (Needed c planned.events (targets_of planned.placed.table)) up planned.needed) are
