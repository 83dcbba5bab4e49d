-- What each history of a cell on one online node says of it: its state, whether it is banned, and whether the resource may run.
use Rattle.std.proofs.Common.{◌≡◌, Bool, true, false, List, [], ◌∷◌, refl, map}
use Rattle.std.specs.Prelude.{codes}
use Rattle.cluster_types.specs.declared.cluster.Cluster.{Cluster}
use Rattle.cluster_types.specs.declared.journal.Event.{Event}
use Rattle.cluster_types.specs.declared.journal.Event.TheVariants.{Up, Down, Cleanup, Ended}
use Rattle.cluster_types.specs.declared.journal.Outcome.TheVariants.{TimedOut}
use Rattle.cluster_types.specs.declared.leaf.Op.TheVariants.{Start, Stop}
use Rattle.cluster_types.specs.declared.states.CellState.{CellState}
use Rattle.cluster_types.specs.declared.states.CellState.TheVariants as cell
use Rattle.cluster_types.specs.CellStates.{cell_state}
use Rattle.cluster_types.specs.Failures.{is_banned}
use Rattle.cluster_types.specs.May.{may_be_running}
use Rattle.cluster_types.proofs.SmallClusters.{node, plain_leaf, two_nodes, unfenced, did, monitored, probed, step}

abbrev alone : Cluster
alone = record (two_nodes (plain_leaf (codes "vip") ∷ [])) { nodes = node (codes "n1") ∷ [] }

record Said : Type 0 where
  state : CellState
  banned : Bool
  may_run : Bool

abbrev said : CellState → Bool → Bool → Said
said state banned may_run = record { state = state; banned = banned; may_run = may_run }

-- what is known after the node joined and these events
abbrev tells : Cluster → List Event → Said
tells c history = said (cell_state c 0 0 (Up 0 ∷ history)) (is_banned c 0 0 (Up 0 ∷ history)) (may_be_running c 0 0 (Up 0 ∷ history))

histories_of_a_cell :
    map (tells alone)
    ([]
    ∷ (probed 0 0 7 900 ∷ [])
    ∷ (probed 0 0 5 900 ∷ [])
    ∷ (probed 0 0 0 900 ∷ [])
    ∷ (Ended 0 (step Start 0 0) TimedOut 900 ∷ [])
    ∷ (did Start 0 0 0 900 ∷ monitored 0 0 10000 190 901 ∷ [])
    ∷ (did Start 0 0 0 900 ∷ monitored 0 0 10000 7 901 ∷ [])
    ∷ (did Start 0 0 0 900 ∷ Cleanup 0 0 ∷ [])
    ∷ (did Start 0 0 0 900 ∷ Down 0 ∷ Up 0 ∷ [])
    ∷ [])
    ≡ said cell.Unprobed false true
    ∷ said cell.Off false false
    ∷ said cell.Off true false
    ∷ said cell.On false true
    ∷ said cell.Failed true true
    ∷ said cell.On false true
    ∷ said cell.Off false false
    ∷ said cell.Unprobed false true
    ∷ said cell.Unprobed false true
    ∷ []
histories_of_a_cell = refl

stop_failed_without_fencing : tells (unfenced alone) (did Start 0 0 0 900 ∷ did Stop 0 0 1 901 ∷ []) ≡ said cell.Blocked false true
stop_failed_without_fencing = refl
