-- Edges that rise make a graph.
use Rattle.std.proofs.Common.{arith, ◌≡◌, ◌<◌, ◌&&◌, nat_lt, ℕ, true, List, length, Contains}
use Rattle.std.specs.List.{list_all}
use Rattle.std.proofs.lemmas.Bool.{ltb-true}
use Rattle.lemmas.proofs.Booleans.{sooner, later}
use Rattle.lemmas.proofs.Searches.{each_passes}
use Rattle.edges.specs.declared.edge.Edge.{Edge}
use Rattle.cluster_types.specs.declared.journal.Action.{Action}
use Rattle.cluster_types.specs.Graphs.{IsGraph}
use Rattle.cluster_types.proofs.RisingEdges.{graph-rising}
use Rattle.run_cases.specs.RisingEdges.{rises}

module _ (actions : List Action) (count : ℕ) (edges : List Edge) (counted : count ≡ length actions) (all : list_all (rises count) edges ≡ true) where
  rise : (e : Edge) → Contains edges e → e.before < e.after
  rise e c = ltb-true e.before e.after (sooner (nat_lt e.before e.after) (nat_lt e.after count) (each_passes (rises count) edges e all c))

  within : (e : Edge) → Contains edges e → e.after < count
  within e c = ltb-true e.after count (later (nat_lt e.before e.after) (nat_lt e.after count) (each_passes (rises count) edges e all c))

  pub rising_is_graph : IsGraph (record { actions = actions; edges = record { positions = count; list = edges } })
  rising_is_graph =
      graph-rising (record { actions = actions; edges = record { positions = count; list = edges } }) (λ x. x) (omega arith)
      (λ e c. let low = rise e c in let high = within e c in (omega arith, high))
      (λ e c gate. rise e c)
      rise
      (λ x y x_in y_in lower. lower)
