-- How what is kept of the actions in flight changes with one of them (rule of this project).
use Rattle.std.specs.Prelude.{◌≡◌, ℕ, ◌-◌, ◌||◌, Bool, true, false, if◌then◌else◌, List, length, slice_set}
use Rattle.std.specs.List.{list_any}
use Rattle.cluster_types.specs.declared.journal.Action.{Action}
use Rattle.cluster_types.specs.Cells.{is_of_cell, is_sent_to}
use Rattle.graph_exec.specs.Flights.{InFlightOf}

-- the action of this number begins
abbrev pub with_begun : InFlightOf → ℕ → InFlightOf
with_begun f k = record {
  progress = record { graph = f.progress.graph; begun = slice_set f.progress.begun (k - 1) true; succeeded = f.progress.succeeded };
  in_flight = slice_set f.in_flight (k - 1) true;
}

-- the action of this number ends, with success or without
abbrev pub with_ended : InFlightOf → ℕ → Bool → InFlightOf
with_ended f k success = record {
  progress = record {
    graph = f.progress.graph;
    begun = f.progress.begun;
    succeeded = if success then slice_set f.progress.succeeded (k - 1) true else f.progress.succeeded;
  };
  in_flight = slice_set f.in_flight (k - 1) false;
}

-- each action has a flag that says whether it is in flight
pub record HasFlagOfEach (f : InFlightOf) : Type 0 where
  pub flags : length f.in_flight ≡ length f.progress.graph.actions

-- the action is of the cell, or a migration to it
abbrev pub is_about : ℕ → ℕ → Action → Bool
is_about r n a = is_of_cell r n a || is_sent_to r n a

-- such an action is in flight
abbrev pub is_busy : List (ℕ × Action) → ℕ → ℕ → Bool
is_busy flight r n = list_any (λ (p : ℕ × Action). is_about r n p.1) flight
