-- When an answer is at hand: no byte more has to come for it (rule of this project).
use Rattle.std.specs.Prelude.{◌≡◌, ◌≢◌, true, List, [], ℕ}
use Rattle.cluster_io.specs.NextLine.{first_line, holds_line}
use Rattle.crm_lex.specs.LogicalLines.{line_text}
use Rattle.crm_lex.specs.Words.{words_of}
use Rattle.live_run.specs.Courses.{SourceState, is_reading}

-- bytes begin with a whole logical line that has words
pub record HoldsResultLine (held : List ℕ) : Type 0 where
  pub whole : holds_line held ≡ true
  pub has_words : words_of (line_text (first_line held)) ≢ []

-- where it reads, a source of answers holds a line that has words. Where it doesn't, nothing is read any more
abbrev pub IsAtHand : SourceState → Type 0
IsAtHand s = is_reading s.course ≡ true → HoldsResultLine s.lines.reading.held
