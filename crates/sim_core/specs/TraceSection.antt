-- A run that `replay` has written, in the place of the results that it was written for, or behind an input that has none (rule of this project).
use Rattle.std.specs.Prelude.{◌≡◌, ℕ, if◌then◌else◌, List, [], ◌∷◌, ◌++◌, codes}
use Rattle.crm_lex.specs.LogicalLines.{line_text}
use Rattle.crm_lex.specs.RawLines.{raw_lines}
use Rattle.crm_lex.specs.Words.{words_of}
use Rattle.live_run.specs.Heads.{begins_results}
use Rattle.live_run.specs.SourceFollowed.{bytes_of}

-- a text is made of whole lines: what stands behind it begins a line of its own
abbrev pub AreWholeLines : List ℕ → Type 0
AreWholeLines front = (behind : List ℕ) → raw_lines (front ++ behind) ≡ raw_lines front ++ raw_lines behind

-- of some logical lines those before the first that begins results, and all where none does. Each is given by its physical lines
abbrev pub lines_before_results : List (List (List ℕ)) → List (List (List ℕ))
lines_before_results [] = []
lines_before_results (lines ∷ more) = if begins_results (words_of (line_text lines)) then [] else lines ∷ lines_before_results more

-- what stands in an input before its results: all of it, where it has none
abbrev pub before_results : List ℕ → List ℕ
before_results input = bytes_of (lines_before_results (raw_lines input))

-- the line that begins a trace
abbrev pub trace_begins : List ℕ
trace_begins = codes "%trace\n"

-- an input with a trace in the place of its results, or behind it where it has none
abbrev pub with_trace_section : List ℕ → List ℕ → List ℕ
with_trace_section input trace = (before_results input ++ trace_begins) ++ trace
