-- The phases of the code by their numbers.
use Rattle.std.specs.Prelude.{ℕ}
use Rattle.loops.specs.declared.place.Phase.{Phase}
use Rattle.loops.specs.declared.place.Phase.TheVariants as phase

-- the phases in their order
abbrev pub phase_number : Phase → ℕ
phase_number phase.Fences = 0
phase_number phase.Probes = 1
phase_number phase.Stops = 2
phase_number phase.Sends = 3
phase_number phase.TakingsIn = 4
phase_number phase.SourceStops = 5
phase_number phase.Starts = 6
phase_number phase.Monitors = 7
