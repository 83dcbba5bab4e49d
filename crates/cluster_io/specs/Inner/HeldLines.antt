-- What holds of the lines that a reader holds at every moment.
use Rattle.std.specs.Prelude.{ℕ, ◌+◌, ◌*◌, ◌^◌, ◌≤◌, min, Option, Some, None, length}
use Rattle.cluster_io.specs.Inner.Scanning.{Looked}
use Rattle.cluster_io.specs.Inner.Windows.{Pane}
use Rattle.cluster_io.specs.declared.line_scan.Scan.{Scan}
use Rattle.cluster_io.specs.declared.line_scan.Bounds.{Bounds}
use Rattle.cluster_io.specs.declared.line_step.LineStep.{LineStep}
use Rattle.cluster_io.specs.declared.line_step.LineStep.TheVariants.{TooLong, TooLarge}

-- the memory suffices for a line that isn't whole and one more read: of a line of so many bytes each joined physical line has a
-- backslash and at most two bytes of line end
abbrev pub Suffices : Bounds → ℕ → Type 0
Suffices bounds room = min (3 * bounds.longest + 1) bounds.room + 4096 ≤ room

-- only at a line that is too long or too large no more is said
abbrev pub Stops : Option LineStep → Type 0
Stops None = Unit {0}
Stops (Some TooLong) = Unit {0}
Stops (Some TooLarge) = Unit {0}
Stops (Some step) = ⊥

-- what was looked at; at most one byte past the limit, and at most one read that was not looked at
pub record OrderlyScan (window : Pane) (scan : Scan) (bounds : Bounds) (next : ℕ) (stop : Option LineStep) : Type 0 where
  pub looked : Looked bounds window.held scan
  pub in_room : length window.held ≤ bounds.room + 1
  pub fresh : length window.held ≤ scan.scanned + 4096
  pub suffices : Suffices bounds window.room
  pub numbered : next + bounds.room ≤ 2 ^ 32
  pub stops : Stops stop
