-- What was found in the bytes that a reader of lines holds.
use Rattle.std.specs.Prelude.{◌≡◌, ℕ, ◌+◌, ◌-◌, ◌≤◌, ◌<◌, false, if◌then◌else◌, List, ◌++◌, length, take, slice_range, slice_index}
use Rattle.crm_lex.specs.RawLines.{physical_lines, ends_in}
use Rattle.cluster_io.specs.NextLine.{reader_answer, first_line, has_feed, holds_line, IsUndecided}
use Rattle.cluster_io.specs.declared.line_scan.Scan.{Scan}
use Rattle.cluster_io.specs.declared.line_scan.Bounds.{Bounds}
use Rattle.cluster_io.specs.declared.line_scan.Found.{Found}
use Rattle.cluster_io.specs.declared.line_scan.Found.TheVariants as found
use Rattle.cluster_io.specs.declared.line_step.LineStep.TheVariants as step

-- what stands before the line end, of what stands before a line feed
abbrev pub before_feed : List ℕ → List ℕ
before_feed text = if ends_in 13 text then take (length text - 1) text else text

-- the place of the first line feed
pub record FeedAt (bytes : List ℕ) (feed : ℕ) : Type 0 where
  pub within : feed < length bytes
  pub none : has_feed (take feed bytes) ≡ false
  pub here : slice_index bytes feed ≡ 10

-- the first line feed behind what was looked at of a line
pub record FeedIn (held : List ℕ) (s : Scan) (feed : ℕ) : Type 0 where
  pub behind : s.scanned ≤ feed
  pub within : feed < length held
  pub none : has_feed (slice_range held s.line feed) ≡ false
  pub here : slice_index held feed ≡ 10

-- the first logical line is these bytes of what is held, whatever follows, and it is to be handed out
pub record IsLine (bounds : Bounds) (held : List ℕ) (scanned count lines : ℕ) : Type 0 where
  pub beyond : scanned < count
  pub within : count ≤ length held
  pub in_room : count ≤ bounds.room
  pub few_lines : lines ≤ count
  pub lines_counted : lines ≡ length (physical_lines (take count held))
  pub first : (rest : List ℕ) → first_line (held ++ rest) ≡ physical_lines (take count held)
  pub answer : (rest : List ℕ) → reader_answer bounds.room bounds.longest (held ++ rest) ≡ step.Line

-- what is held has no whole logical line, and gives no answer yet
pub record IsOpen (bounds : Bounds) (held : List ℕ) (s : Scan) : Type 0 where
  pub unfinished : holds_line held ≡ false
  pub all_scanned : s.scanned ≡ length held
  pub in_room : length held ≤ bounds.room
  pub short : s.content + (length held - s.line) ≤ bounds.longest + 1
  pub undecided : IsUndecided bounds.room bounds.longest held

-- what was found in what is held, of which all before `scanned` was looked at before
abbrev pub Finds : Found → Bounds → List ℕ → ℕ → Scan → Type 0
Finds (found.Line count lines) bounds held scanned new = IsLine bounds held scanned count lines
Finds found.TooLong bounds held scanned new = (rest : List ℕ) → reader_answer bounds.room bounds.longest (held ++ rest) ≡ step.TooLong
Finds found.TooLarge bounds held scanned new = (rest : List ℕ) → reader_answer bounds.room bounds.longest (held ++ rest) ≡ step.TooLarge
Finds found.More bounds held scanned new = IsOpen bounds held new

-- all that is held is the last logical line, and it is to be handed out
pub record IsLast (bounds : Bounds) (held : List ℕ) (count lines : ℕ) : Type 0 where
  pub whole : count ≡ length held
  pub few_lines : lines ≤ count
  pub lines_counted : lines ≡ length (physical_lines held)
  pub first : first_line held ≡ physical_lines held
  pub answer : reader_answer bounds.room bounds.longest held ≡ step.Line

-- what was found in what is held at the end of the source
abbrev pub FindsLast : Found → Bounds → List ℕ → Type 0
FindsLast (found.Line count lines) bounds held = IsLast bounds held count lines
FindsLast found.TooLong bounds held = reader_answer bounds.room bounds.longest held ≡ step.TooLong
FindsLast _ bounds held = ⊥
