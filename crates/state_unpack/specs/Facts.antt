-- What some events tell of a cell, as it is kept event by event (follows from the definitions of what they tell).
use Rattle.std.specs.Prelude.{ℕ, Bool, false, ◌||◌, is_some, List, map, slice_get}
use Rattle.std.specs.List.{list_any, after_last, range_with_len}
use Rattle.std.specs.Option.{option_map_or}
use Rattle.cluster_types.specs.declared.cluster.Cluster.{Cluster}
use Rattle.cluster_types.specs.declared.journal.Event.{Event}
use Rattle.cluster_types.specs.declared.leaf.Monitor.{Monitor}
use Rattle.cluster_types.specs.CellStates.{last_outcome, is_sent_away, begins_sending_to, is_monitor_running}
use Rattle.cluster_types.specs.Failures.{failures_in_force, is_outcome, is_failure}
use Rattle.cluster_types.specs.Fields.{monitors}
use Rattle.cluster_types.specs.May.{may_be_running, is_left_promoted}
use Rattle.state_unpack.specs.Tally.{tally_of}
use Rattle.state_unpack.specs.declared.facts.Facts.{Facts}

-- the event leaves it open what runs in the cell of which it is an outcome
abbrev pub leaves_open : Event → Bool
leaves_open e = is_failure e || is_sent_away e

-- the monitor of this index is running; none is where the leaf has none
abbrev pub monitor_runs : Cluster → ℕ → ℕ → List Event → ℕ → Bool
monitor_runs c r n es i = option_map_or (λ (m : Monitor). is_monitor_running r n m.interval_ms es) (slice_get (monitors c r) i) false

abbrev pub facts_of : Cluster → ℕ → ℕ → List Event → Facts
facts_of c r n es = record {
  tally = tally_of c (failures_in_force c r n es);
  seen = is_some (last_outcome c r n es);
  left = option_map_or leaves_open (last_outcome c r n es) false;
  awaited = list_any (begins_sending_to r n) (after_last (is_outcome c r n) es);
  may = may_be_running c r n es;
  promoted = is_left_promoted c r n es;
  running = map (monitor_runs c r n es) (range_with_len 0 8);
}
