-- What is to come of result lines: their answers, up to the first line that is refused or goes past the limit (rule of this project).
use Rattle.std.specs.Prelude.{◌≡◌, ℕ, ◌+◌, ◌-◌, ◌^◌, ◌≤◌, ◌<◌, Option, Some, None, List, [], ◌∷◌, ◌++◌, length}
use Rattle.std.specs.List.{concat}
use Rattle.cluster_io.specs.Readings.{Reading}
use Rattle.cluster_types.specs.declared.cluster.Cluster.{Cluster}
use Rattle.crm_lex.specs.RawLines.{raw_lines}
use Rattle.input_reading.specs.declared.results.result_lines.ResultLine.{ResultLine}
use Rattle.live_run.specs.LineSays.{place_behind_said, line_says_within}
use Rattle.live_run.specs.declared.line_stop.LineStop.{LineStop}
use Rattle.live_run.specs.declared.place.Place.{Place}
use Rattle.live_run.specs.declared.line_saying.Said.{Said}
use Rattle.live_run.specs.declared.line_saying.Said.TheVariants as said

-- answers with their lines, and why there are no more, if that is so by a line that is refused or goes past the limit
pub record Coming : Type 0 where
  pub results : List ResultLine
  pub stop : Option LineStop

-- no answer more
abbrev pub no_more : Option LineStop → Coming
no_more why = record { results = []; stop = why }

abbrev pub result_first : ResultLine → Coming → Coming
result_first result others = record { results = result ∷ others.results; stop = others.stop }

-- what a line at a place says, and then what the others say
abbrev pub said_first : Place → Said → Coming → Coming
said_first at said.Nothing others = others
said_first at (said.Answer given) others = result_first (record { line = at.line; answer = given }) others
said_first at (said.Stop why) others = no_more (Some why)

-- what is to come of some logical lines, each of which is given by its physical lines. A line may have so many bytes without line ends; so many of
-- the bytes to come lie within the limit; and the first line stands at this place. Each line has the room, and stands at the place, that the lines before it
-- leave: these are what is left of the room without their bytes, and `place_behind_lines` (`lines_stand_behind_those_before`)
abbrev pub coming : Cluster → (longest room : ℕ) → Place → List (List (List ℕ)) → Coming
coming c longest room at [] = no_more None
coming c longest room at (lines ∷ more) =
    said_first at (line_says_within c longest room at lines)
    (coming c longest (room - length (concat lines)) (place_behind_said at (line_says_within c longest room at lines) (length lines)) more)

-- lines that are read: the place of the next, and what their reader holds. The number of the next line stands in both (see `AreReady`)
pub record LineReaderAt : Type 0 where
  pub at : Place
  pub reading : Reading

-- what is to come of all bytes to come: those that the reader holds, and those that its source has left
abbrev pub coming_of : Cluster → LineReaderAt → List ℕ → Coming
coming_of c lines left = coming c lines.reading.longest lines.reading.room lines.at (raw_lines (lines.reading.held ++ left))

-- the numbers of some lines have their ranges: seconds below 2^40, at most 10,000 result lines, and numbers of lines below 2^32. The place and the reader
-- agree on the number of the next line
pub record AreReady (lines : LineReaderAt) : Type 0 where
  pub moment : lines.at.moment < 2 ^ 40
  pub few : lines.at.before ≤ 10000
  pub line : lines.at.line ≡ lines.reading.next
  pub numbered : lines.reading.next + lines.reading.room ≤ 2 ^ 32
