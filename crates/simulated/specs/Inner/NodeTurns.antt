-- What comes of a node that is drawn, as the code finds it (follows from the definition of a turn).
use Rattle.std.specs.Prelude.{ℕ, ◌+◌, ◌<◌, ◌==◌, ◌&&◌, nat_lt, Bool, if◌then◌else◌, Option, Some, None, length}
use Rattle.cluster_types.specs.declared.cluster.Cluster.{Cluster}
use Rattle.simulated.specs.declared.real.Standing.{Standing}
use Rattle.simulated.specs.declared.turn.Turn.{Turn}
use Rattle.simulated.specs.declared.turn.Turn.TheVariants as turn
use Rattle.cases.specs.Draws.{draw}
use Rattle.simulated.specs.RealWorlds.{RealWorld, is_node_off, is_node_up}

-- what comes of a node that was drawn, by the first number, whether the cluster has it, and how it stands
abbrev pub node_turn_from : ℕ → ℕ → Bool → Standing → Option Turn
node_turn_from die node has stands =
    if die == 0 && (has && is_node_up stands) then Some (turn.Leaves node)
    else (if die == 1 && (has && is_node_off stands) then Some (turn.Joins node)
    else None)

-- what comes of the node that is drawn next, by the first number
abbrev pub node_turn : Cluster → ℕ → RealWorld → Option ℕ → Option Turn
node_turn c number w None = None
node_turn c number w (Some die) =
    node_turn_from die (draw number (w.drawn + 1) (length c.nodes)) (nat_lt (draw number (w.drawn + 1) (length c.nodes)) (length c.nodes))
    (w.nodes (draw number (w.drawn + 1) (length c.nodes)))

-- the first number is for a node
abbrev pub IsForNode : Option ℕ → Type 0
IsForNode None = ⊥
IsForNode (Some die) = die < 2

-- how many numbers are drawn for a node
abbrev pub draws_for_node : Option ℕ → ℕ
draws_for_node None = 0
draws_for_node (Some die) = if nat_lt die 2 then 1 else 0

-- it comes of a node
abbrev pub IsOfNode : Turn → Type 0
IsOfNode (turn.Leaves node) = Unit {0}
IsOfNode (turn.Joins node) = Unit {0}
IsOfNode (turn.Ends place f) = ⊥
