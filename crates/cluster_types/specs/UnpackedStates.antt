-- What a journal tells of a cluster, put together: the states of its nodes and cells, failures that stop a leaf everywhere, quorum and the moment
-- (follows from the definitions that it puts together).
use Rattle.std.specs.Prelude.{ℕ, ◌+◌, ◌*◌, Bool, if◌then◌else◌, List, [], ◌∷◌, length, map}
use Rattle.std.specs.List.{flat_map, range_with_len}
use Rattle.cluster_types.specs.declared.cluster.Cluster.{Cluster}
use Rattle.cluster_types.specs.declared.journal.Event.{Event}
use Rattle.cluster_types.specs.declared.journal.Promotion.{Promotion}
use Rattle.cluster_types.specs.declared.states.Cell.{Cell}
use Rattle.cluster_types.specs.declared.states.States.{States}
use Rattle.cluster_types.specs.CellStates.{cell_state, is_monitor_running}
use Rattle.cluster_types.specs.Failures.{is_banned, is_fail_stopped}
use Rattle.cluster_types.specs.Fields.{monitors}
use Rattle.cluster_types.specs.Journals.{has_quorum, moment_of}
use Rattle.cluster_types.specs.May.{may_be_running, may_be_promoted}
use Rattle.cluster_types.specs.NodeStates.{node_state}

-- yes and no as the bits of a number, the first as the lowest
abbrev pub as_bits : List Bool → ℕ
as_bits [] = 0
as_bits (b ∷ bs) = (if b then 1 else 0) + 2 * as_bits bs

module _ (c : Cluster) (es : List Event) where
  -- what is known of leaf r on node n
  abbrev pub cell_at : ℕ → ℕ → Cell
  cell_at r n = record {
    state = cell_state c r n es;
    may = may_be_running c r n es;
    may_promoted = may_be_promoted c r n es;
    banned = is_banned c r n es;
    running = as_bits (map (λ m. is_monitor_running r n m.interval_ms es) (monitors c r));
  }

  -- all that is known. The cells stand leaf by leaf, node by node
  abbrev pub states_of : List Promotion → States
  states_of promotions = record {
    nodes = map (λ n. node_state c n es) (range_with_len 0 (length c.nodes));
    cells = flat_map (λ r. map (cell_at r) (range_with_len 0 (length c.nodes))) (range_with_len 0 (length c.leaves));
    fail_stop = map (λ r. is_fail_stopped c r es) (range_with_len 0 (length c.leaves));
    promotions = promotions;
    quorum = has_quorum es;
    moment = moment_of es;
  }
