-- What one more event changes of what is kept of a cell (follows from the definitions of what events tell).
use Rattle.std.specs.Prelude.{ℕ, Bool, false, not, ◌&&◌, ◌||◌, if◌then◌else◌, List, ◌∷◌, map, get_or, slice_get, []}
use Rattle.std.specs.List.{range_with_len}
use Rattle.std.specs.Option.{option_map_or}
use Rattle.cluster_types.specs.declared.cluster.Cluster.{Cluster}
use Rattle.cluster_types.specs.declared.journal.Event.{Event}
use Rattle.cluster_types.specs.declared.leaf.Monitor.{Monitor}
use Rattle.cluster_types.specs.Cells.{is_reset}
use Rattle.cluster_types.specs.CellStates.{begins_sending_to, ends_monitors, is_end_of_monitor}
use Rattle.cluster_types.specs.Failures.{is_outcome}
use Rattle.cluster_types.specs.Fields.{monitors}
use Rattle.cluster_types.specs.May.{opens, closes, opens_promoted, closes_promoted}
use Rattle.state_unpack.specs.Inner.Tally.{no_tally, tally_after}
use Rattle.state_unpack.specs.declared.facts.Facts.{Facts}
use Rattle.state_unpack.specs.Facts.{leaves_open}

-- the monitor of this index answered
abbrev pub answers : Cluster → ℕ → ℕ → Event → ℕ → Bool
answers c r n e i = option_map_or (λ (m : Monitor). is_end_of_monitor r n m.interval_ms e) (slice_get (monitors c r) i) false

-- it is running after one more event, where it was or wasn't
abbrev pub runs_after : Cluster → ℕ → ℕ → Event → ℕ → Bool → Bool
runs_after c r n e i was = not (ends_monitors r n e) && (was || answers c r n e i)

-- which of the first eight are running after one more event, of those that were
abbrev pub running_after : Cluster → ℕ → ℕ → List Bool → Event → List Bool
running_after c r n running e = map (λ i. runs_after c r n e i (get_or running i false)) (range_with_len 0 8)

-- what no event tells
abbrev pub no_facts : Facts
no_facts = record {
  tally = no_tally;
  seen = false;
  left = false;
  awaited = false;
  may = false;
  promoted = false;
  running = false ∷ false ∷ false ∷ false ∷ false ∷ false ∷ false ∷ false ∷ [];
}

-- what they tell with one more event
abbrev pub facts_after : Cluster → ℕ → ℕ → Facts → Event → Facts
facts_after c r n facts e = record {
  tally = tally_after c r n facts.tally e;
  seen = not (is_reset r n e) && (facts.seen || is_outcome c r n e);
  left = not (is_reset r n e) && (if is_outcome c r n e then leaves_open e else facts.left);
  awaited = not (is_outcome c r n e) && (facts.awaited || begins_sending_to r n e);
  may = opens c r n e || facts.may && not (closes c r n e);
  promoted = opens_promoted c r n e || facts.promoted && not (closes_promoted c r n e);
  running = running_after c r n facts.running e;
}
