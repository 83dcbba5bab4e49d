-- What one step of reading the head of an input brings (follows from the definition of the head).
use Rattle.std.specs.Prelude.{◌≡◌, ℕ, Bool, true, false, Option, Some, None, Result, Ok, Err, List, option_map}
use Rattle.cluster_io.specs.Readings.{Reading}
use Rattle.crm_lex.specs.declared.fault.LexCause.{LexCause}
use Rattle.faults.specs.declared.fault.Fault.{Fault}
use Rattle.faults.specs.declared.fault.Fault.TheVariants.{At, NoMemory}
use Rattle.input_reading.specs.declared.input.cause.InputCause.TheVariants.{Words}
use Rattle.live_run.specs.declared.head.HeadStop.{HeadStop}
use Rattle.live_run.specs.declared.head.HeadStop.TheVariants as stop
use Rattle.live_run.specs.Heads.{HeadFound, head_behind, ReaderSofar, taken, refused, too_large}

-- the head where reading came to its end or stopped, with this text behind it and the reader there. Before that, and where the source or memory
-- failed, it is what is still to come
abbrev pub came_to : Option (Result (Unit {0}) HeadStop) → List ℕ → Reading → HeadFound → HeadFound
came_to (Some (Ok end)) text reading others = taken text reading.next reading.room
came_to (Some (Err (stop.Refused line why))) text reading others = refused line why
came_to (Some (Err stop.TooLarge)) text reading others = too_large
came_to _ text reading others = others

-- whether it was memory that failed
abbrev pub lacks_memory : Option (Result (Unit {0}) HeadStop) → Bool
lacks_memory (Some (Err stop.NoMemory)) = true
lacks_memory _ = false

-- reading on brought this of the head that was to come, where the source tells its bytes
abbrev pub BringsHead : Option (Result (Unit {0}) HeadStop) → ReaderSofar → ReaderSofar → Option (List ℕ) → Option (List ℕ) → Type 0
BringsHead came old new before after = lacks_memory came ≡ false
    → option_map (head_behind old.text old.reading) before
    ≡ option_map (λ left. came_to came new.text new.reading (head_behind new.text new.reading left)) after

-- where reading came to the end of the head, or goes on
abbrev pub WhileWell : Option (Result (Unit {0}) HeadStop) → Type 0 → Type 0
WhileWell (Some (Err why)) P = Unit {0}
WhileWell _ P = P

-- why a line stops the reading that can't be cut into words. A line is cut without memory, so that the second case never comes
abbrev pub stop_for : Fault LexCause → HeadStop
stop_for (At line why) = stop.Refused line (Words why)
stop_for NoMemory = stop.TooLarge

-- reading goes on, or the source failed
abbrev pub StillAmid : Option (Result (Unit {0}) HeadStop) → Type 0 → Type 0
StillAmid None P = P
StillAmid (Some (Err stop.ReadFault)) P = P
StillAmid _ P = Unit {0}
