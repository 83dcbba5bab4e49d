-- How far a reader of lines has looked through what it holds.
use Rattle.std.specs.Prelude.{◌≡◌, ℕ, ◌+◌, ◌*◌, ◌≤◌, ◌&&◌, Bool, false, true, List, [], ◌∷◌, ◌++◌, length, take, slice_range}
use Rattle.crm_lex.specs.RawLines.{physical_lines, content, goes_on}
use Rattle.cluster_io.specs.NextLine.{has_feed}
use Rattle.cluster_io.specs.declared.line_scan.Scan.{Scan}
use Rattle.cluster_io.specs.declared.line_scan.Bounds.{Bounds}

-- how many bytes some physical lines have without line ends
abbrev pub physical_content_length : List (List ℕ) → ℕ
physical_content_length [] = 0
physical_content_length (line ∷ lines) = length (content line) + physical_content_length lines

-- each of these physical lines goes on
abbrev pub all_go_on : Bool → List (List ℕ) → Bool
all_go_on continues [] = true
all_go_on continues (line ∷ lines) = goes_on continues line && all_go_on true lines

-- these bytes are physical lines with their line ends, and each of them goes on
pub record Joins (done : List ℕ) : Type 0 where
  pub cut : (rest : List ℕ) → physical_lines (done ++ rest) ≡ physical_lines done ++ physical_lines rest
  pub go_on : all_go_on false (physical_lines done) ≡ true

-- all before `scanned` was looked at
pub record Looked (bounds : Bounds) (held : List ℕ) (s : Scan) : Type 0 where
  pub order : s.line ≤ s.scanned
  pub within : s.scanned ≤ length held
  pub in_room : s.line ≤ bounds.room
  pub short : s.content ≤ bounds.longest
  pub none : has_feed (slice_range held s.line s.scanned) ≡ false
  pub joins : Joins (take s.line held)
  pub lines_counted : s.lines ≡ length (physical_lines (take s.line held))
  pub content_counted : s.content ≡ physical_content_length (physical_lines (take s.line held))
  pub few_lines : s.lines ≤ s.line
  pub few_bytes : s.content ≤ s.line
  pub few_ends : s.line ≤ 3 * s.content
