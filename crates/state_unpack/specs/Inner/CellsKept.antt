-- What is known of cells and nodes, by what is kept of them (follows from the definitions of what is known).
use Rattle.std.specs.Prelude.{ℕ, ◌&&◌, ◌||◌, not, Bool, false, if◌then◌else◌, Option, None, List, length, map, get_or, slice_get, unwrap_or}
use Rattle.std.specs.List.{flat_map, list_any, range_with_len}
use Rattle.std.specs.Option.{option_map_or}
use Rattle.cluster_types.specs.declared.cluster.Cluster.{Cluster}
use Rattle.cluster_types.specs.declared.journal.Event.{Event}
use Rattle.cluster_types.specs.declared.journal.Event.TheVariants.{Quorum}
use Rattle.cluster_types.specs.declared.journal.Promotion.{Promotion}
use Rattle.cluster_types.specs.declared.states.Cell.{Cell}
use Rattle.cluster_types.specs.declared.states.CellState.{CellState}
use Rattle.cluster_types.specs.declared.states.CellState.TheVariants as cell
use Rattle.cluster_types.specs.Fields.{is_promotable}
use Rattle.cluster_types.specs.UnpackedStates.{as_bits}
use Rattle.state_unpack.specs.declared.tally.Tally.{Tally}
use Rattle.state_unpack.specs.Inner.Tally.{tally_counted, bans}
use Rattle.cluster_types.specs.declared.states.NodeState.{NodeState}
use Rattle.cluster_types.specs.declared.states.States.{States}
use Rattle.state_unpack.specs.declared.facts.Facts.{Facts}
use Rattle.state_unpack.specs.declared.signs.Sign.{Sign}
use Rattle.cluster_types.specs.NodeStates.{is_online_in}
use Rattle.state_unpack.specs.Inner.Facts.{no_facts}
use Rattle.state_unpack.specs.KeptCells.{cell_in}
use Rattle.state_unpack.specs.Inner.Signs.{state_by_sign}

-- the bits of the monitors that are running
abbrev pub bits_of : List Bool → ℕ
bits_of running = as_bits (map (λ i. get_or running i false) (range_with_len 0 8))

-- the failures of a cell that count at a moment
abbrev pub counted_of : Cluster → ℕ → ℕ → Facts → Tally
counted_of c r now facts = tally_counted c r now facts.tally

-- the state of a cell, on a node that is online or isn't. The first that holds counts
abbrev pub state_from : Cluster → ℕ → ℕ → Bool → Facts → CellState
state_from c r now online facts =
    if not online then cell.Away
    else (if not facts.seen then cell.Unprobed
    else (if (counted_of c r now facts).block then cell.Blocked
    else (if facts.may && (facts.left || facts.awaited) then cell.Failed
    else (if is_promotable c r && facts.promoted then cell.Promoted
    else (if facts.may then cell.On
    else cell.Off)))))

-- what is known of a cell, where a failure on some node keeps its leaf from all nodes or doesn't
abbrev pub cell_from : Cluster → ℕ → ℕ → Bool → Bool → Facts → Cell
cell_from c r now fatal online facts = record {
  state = state_from c r now online facts;
  may = facts.may;
  may_promoted = is_promotable c r && facts.promoted;
  banned = bans c r (counted_of c r now facts) || fatal;
  running = bits_of facts.running;
}

-- some node has failures of the leaf that count, for which the test passes
abbrev pub somewhere : (Tally → Bool) → Cluster → ℕ → ℕ → List Facts → Bool
somewhere test c r now cells =
    list_any (λ n. option_map_or (λ facts. test (counted_of c r now facts)) (cell_in c cells r n) false) (range_with_len 0 (length c.nodes))

-- a failure in force of some leaf wants the node fenced
abbrev pub is_blamed : Cluster → ℕ → List Facts → Bool
is_blamed c n cells =
    list_any (λ r. option_map_or (λ (facts : Facts). facts.tally.fence) (cell_in c cells r n) false) (range_with_len 0 (length c.leaves))

-- the state of a node by what is kept of it
abbrev pub node_from : Cluster → List Facts → List (Option Sign) → ℕ → NodeState
node_from c cells signs n = state_by_sign c.properties.fencing (is_blamed c n cells) (unwrap_or (slice_get signs n) None)

abbrev pub is_fatal : Tally → Bool
is_fatal tally = tally.fatal

abbrev pub is_stopping : Tally → Bool
is_stopping tally = tally.stop

-- what is known of each cell of a leaf, node by node
abbrev pub row_from : Cluster → List Facts → List NodeState → ℕ → ℕ → List Cell
row_from c cells nodes now r =
    map (λ n. cell_from c r now (somewhere is_fatal c r now cells) (is_online_in nodes n) (unwrap_or (cell_in c cells r n) no_facts)) (range_with_len 0 (length c.nodes))

-- all that is known, by what is kept
abbrev pub states_from : Cluster → List Facts → List (Option Sign) → Bool → ℕ → List Promotion → States
states_from c cells signs quorum now promotions =
    let nodes = map (node_from c cells signs) (range_with_len 0 (length c.nodes)) in
    record {
      nodes = nodes;
      cells = flat_map (row_from c cells nodes now) (range_with_len 0 (length c.leaves));
      fail_stop = map (λ r. somewhere is_stopping c r now cells) (range_with_len 0 (length c.leaves));
      promotions = promotions;
      quorum = quorum;
      moment = now;
    }

-- whether there is quorum after one more event, where there was or wasn't
abbrev pub quorum_after : Bool → Event → Bool
quorum_after before (Quorum now) = now
quorum_after before _ = before
