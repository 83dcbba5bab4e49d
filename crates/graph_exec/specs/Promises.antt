-- What is promised of a transition, whatever is answered and in whatever order (rule of this project).
use Rattle.std.specs.Prelude.{◌≡◌, ◌++◌, true, List}
use Rattle.cluster_types.specs.declared.journal.Event.{Event}
use Rattle.cluster_types.specs.declared.placement.Placed.{Placed}
use Rattle.cluster_types.specs.Journals.{Orderly}
use Rattle.cluster_types.specs.Plans.{CarriesOut}
use Rattle.cluster_types.specs.Safety.{AtEachBegin, EndsInTargets, IsAtRest, IsEager, IsSafe, PredecessorsFirst}
use Rattle.cluster_types.specs.Steps.{Transition, has_room}
use Rattle.cluster_types.specs.Tables.{targets_of}
use Rattle.cluster_types.specs.Valid.{IsValid}
use Rattle.graph_exec.specs.declared.transition.ends.WatchedEnd.{WatchedEnd}
use Rattle.graph_exec.specs.declared.transition.ends.WatchedEnd.TheVariants as how
use Rattle.graph_exec.specs.Executors.{ExecutorOf, transition_in}

-- the graph carries out the plan of a valid cluster, made for a journal in order with nothing in flight
pub record IsGraphPlanned (r : ExecutorOf) (placed : Placed) : Type 0 where
  pub valid : IsValid r.cluster
  pub at_rest : IsAtRest r.planned_at
  pub plan : CarriesOut r.cluster r.planned_at r.promotions placed r.graph

-- each action began while fewer than the batch limit were in flight; 0 is no limit
abbrev pub KeepsBatchLimit : Transition → List Event → Type 0
KeepsBatchLimit t events = AtEachBegin (λ before k a. has_room t before ≡ true) events

-- at every moment: the first three of every graph, the others of one that carries a plan out
pub record KeepsPromises (r : ExecutorOf) : Type 0 where
  pub predecessors : PredecessorsFirst (transition_in r) r.since
  pub eager : IsEager (transition_in r) r.since
  pub batch_limit : KeepsBatchLimit (transition_in r) r.since
  pub safe : (placed : Placed) → IsGraphPlanned r placed → IsSafe (transition_in r) r.since
  pub in_order : (placed : Placed) → IsGraphPlanned r placed → Orderly (r.planned_at ++ r.since)

-- at its end: the next can be planned for the journal that it leaves, and a complete one has ended in its targets
abbrev pub EndsWell : ExecutorOf → WatchedEnd → Type 0
EndsWell r how.Complete =
    (placed : Placed) → IsGraphPlanned r placed → IsAtRest (r.planned_at ++ r.since) × EndsInTargets (transition_in r) (targets_of placed.table) r.since
EndsWell r (how.Aborted event) = (placed : Placed) → IsGraphPlanned r placed → IsAtRest (r.planned_at ++ r.since)
EndsWell r _ = Unit {0}
