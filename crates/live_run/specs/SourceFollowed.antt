-- How a source of answers that are read from lines has come from itself at an earlier moment: which logical lines it has read since, how they were answered, and how far it has
-- read its source of bytes (rule of this project).
use Rattle.std.specs.Prelude.{◌≡◌, ◌⊎◌, ℕ, ◌+◌, ◌<◌, Bool, true, false, if◌then◌else◌, Option, Some, List, [], ◌∷◌, ◌++◌, length, is_some, option_map, sum_by, IfSome}
use Rattle.std.specs.List.{concat, flat_map}
use Rattle.cluster_io.specs.NextLine.{holds_line, IsUndecided}
use Rattle.cluster_io.specs.Streams.{Bears, TakesBytes}
use Rattle.cluster_types.specs.declared.cluster.Cluster.{Cluster}
use Rattle.cluster_types.specs.AnswersThatApply.{seconds_in}
use Rattle.crm_lex.specs.RawLines.{raw_lines}
use Rattle.graph_exec.specs.declared.transition.outcomes.Next.{Next}
use Rattle.graph_exec.specs.declared.transition.outcomes.Next.TheVariants as next
use Rattle.input_reading.specs.declared.results.result_lines.ResultLine.{ResultLine}
use Rattle.live_run.specs.AnswersToCome.{Coming, LineReaderAt, coming}
use Rattle.live_run.specs.Courses.{SourceState, has_course_ended, is_reading, stop_of, told_by, coming_to}
use Rattle.live_run.specs.LineSays.{is_last}
use Rattle.live_run.specs.declared.course.Course.{Course}
use Rattle.live_run.specs.declared.course.Course.TheVariants as course
use Rattle.live_run.specs.declared.line_stop.LineStop.{LineStop}
use Rattle.live_run.specs.declared.line_stop.LineStop.TheVariants.{ReadFault}
use Rattle.live_run.specs.declared.place.Place.{Place}
use Rattle.run_safety.specs.TwoRuns.{IsFront}

-- the bytes of some logical lines, each of which is given by its physical lines
abbrev pub bytes_of : List (List (List ℕ)) → List ℕ
bytes_of lines = flat_map concat lines

-- how many physical lines they have
abbrev pub count_lines : List (List (List ℕ)) → ℕ
count_lines lines = sum_by (λ (line : List (List ℕ)). length line) lines

-- what some logical lines say, read from a place on
abbrev pub said_by : Cluster → LineReaderAt → List (List (List ℕ)) → Coming
said_by c from lines = coming c from.reading.longest from.reading.room from.at lines

-- the place behind logical lines that give these answers: later by the waits among them, with so many answers more before it, and so many physical lines on
abbrev pub place_behind_lines : Place → List ResultLine → List (List (List ℕ)) → Place
place_behind_lines at given lines = record {
  moment = at.moment + sum_by (λ (result : ResultLine). seconds_in result.answer) given;
  before = at.before + length given;
  line = at.line + count_lines lines;
}

-- some answers with their lines, and then what is to come behind them
abbrev pub results_first : List ResultLine → Coming → Coming
results_first given others = record { results = given ++ others.results; stop = others.stop }

-- the line of the last of some answers; where there is none, this one
abbrev pub last_line : ℕ → List ResultLine → ℕ
last_line line [] = line
last_line line (result ∷ results) = last_line result.line results

-- how many lines say something: those that are answers, and one more that is refused or goes past the limit
abbrev pub count_said : Coming → ℕ
count_said coming = length coming.results + (if is_some coming.stop then 1 else 0)

-- these logical lines stand by themselves: whatever is appended behind their bytes, the text is cut into these lines, and then into those of the rest. So
-- each of them has its line end
abbrev pub StandWhole : List (List (List ℕ)) → Type 0
StandWhole lines = (rest : List ℕ) → raw_lines (bytes_of lines ++ rest) ≡ lines ++ raw_lines rest

-- some logical lines have a last one, and it says something: without it they say less
pub record LastLineSays (c : Cluster) (from : LineReaderAt) (lines : List (List (List ℕ))) : Type 0 where
  pub front : List (List (List ℕ))
  pub last : List (List ℕ)
  pub joined : lines ≡ front ++ last ∷ []
  pub fewer : count_said (said_by c from front) < count_said (said_by c from lines)

-- there are none, or the last of them says something
abbrev pub NoneOrLastSays : Cluster → LineReaderAt → List (List (List ℕ)) → Type 0
NoneOrLastSays c from lines = (lines ≡ []) ⊎ LastLineSays c from lines

-- these logical lines were read and answered so, and the bytes that were held and taken are theirs and those that are held now. Each byte of theirs
-- leaves less room. Before the end of the source each of them is whole
pub record HasRead (c : Cluster) (old new : LineReaderAt) (before after : Option (List ℕ)) (lines : List (List (List ℕ))) (given : List ResultLine) (bytes : List ℕ) : Type 0 where
  pub taken : TakesBytes before bytes after
  pub parts : old.reading.held ++ bytes ≡ bytes_of lines ++ new.reading.held
  pub cut : option_map (λ left. raw_lines (old.reading.held ++ left)) before ≡ option_map (λ left. lines ++ raw_lines (new.reading.held ++ left)) after
  pub whole : new.reading.ended ≡ false → (old.reading.ended ≡ false) × StandWhole lines
  pub answered : (others : List (List (List ℕ))) → said_by c old (lines ++ others) ≡ results_first given (said_by c new others)
  pub room : length (bytes_of lines) + new.reading.room ≡ old.reading.room
  pub same_size : new.reading.longest ≡ old.reading.longest

-- no byte was taken; or of the bytes that were held and taken fewer than 4,096 lie behind these lines
abbrev pub AreNear : LineReaderAt → List (List (List ℕ)) → List ℕ → Type 0
AreNear old lines bytes = (bytes ≡ []) ⊎ (length (old.reading.held ++ bytes) < length (bytes_of lines) + 4096)

-- all is read
pub record AllIsRead (new : LineReaderAt) (after : Option (List ℕ)) : Type 0 where
  pub none_held : new.reading.held ≡ []
  pub none_left : IfSome after (λ left. left ≡ [])

-- the last of these lines is the first that is refused or goes past the limit
pub record IsStoppedBy (c : Cluster) (old : LineReaderAt) (before after : Option (List ℕ)) (given : List ResultLine) (why : LineStop) : Type 0 where
  pub lines : List (List (List ℕ))
  pub first : IfSome before (λ left. IsFront lines (raw_lines (old.reading.held ++ left)))
  pub said : said_by c old lines ≡ record { results = given; stop = Some why }
  pub ends : LastLineSays c old lines
  pub bytes : List ℕ
  pub taken : TakesBytes before bytes after
  pub near : AreNear old lines bytes

-- it goes on reading behind a line that says something, or all is read
abbrev pub RestsBehind : SourceState → SourceState → Option (List ℕ) → List (List (List ℕ)) → List ℕ → Course → Type 0
RestsBehind old new after lines bytes course.Reading = NoneOrLastSays old.cluster old.lines lines × AreNear old.lines lines bytes
RestsBehind old new after lines bytes course.Ended = AllIsRead new.lines after
RestsBehind old new after lines bytes (course.Stopped why times) = ⊥

-- some questions were answered. Whether the source of bytes has failed before stays
pub record HasAnswered (old new : SourceState) (before after : Option (List ℕ)) : Type 0 where
  pub cluster_stays : new.cluster ≡ old.cluster
  pub failed_stays : new.failed ≡ old.failed
  pub lines : List (List (List ℕ))
  pub given : List ResultLine
  pub bytes : List ℕ
  pub read : HasRead old.cluster old.lines new.lines before after lines given bytes
  pub told : told_by old before ≡ option_map (λ left. results_first given (coming_to new left)) after
  pub line : new.line ≡ last_line old.line given
  pub rests : RestsBehind old new after lines bytes new.course

-- no question failed: nothing was read, or some questions were answered
pub data SourceFollows (old new : SourceState) (before after : Option (List ℕ)) : Type 0 where
  stays : new ≡ old → after ≡ before → SourceFollows old new before after
  answers : is_reading old.course ≡ true → HasAnswered old new before after → SourceFollows old new before after

-- the source of bytes failed, which hadn't ended: all lines that were taken whole were read, and what is held behind them gives no answer yet
pub record HasBroken (old new : SourceState) (before after : Option (List ℕ)) : Type 0 where
  pub lines : List (List (List ℕ))
  pub given : List ResultLine
  pub bytes : List ℕ
  pub read : HasRead old.cluster old.lines new.lines before after lines given bytes
  pub told : told_by old before ≡ option_map (λ left. results_first given (coming_to new left)) after
  pub not_ended : new.lines.reading.ended ≡ false
  pub unfinished : holds_line new.lines.reading.held ≡ false
  pub undecided : IsUndecided new.lines.reading.room new.lines.reading.longest new.lines.reading.held
  pub why : stop_of new ≡ Some ReadFault

-- a line was refused, or goes past the limit: it stands behind those that were answered
pub record HasStopped (old new : SourceState) (before after : Option (List ℕ)) : Type 0 where
  pub why : LineStop
  pub last : is_last why ≡ true
  pub stop : stop_of new ≡ Some why
  pub given : List ResultLine
  pub told : told_by old before ≡ option_map (λ left. record { results = given; stop = Some why }) after
  pub by : IsStoppedBy old.cluster old.lines before after given why

-- a source of answers at a moment
pub record SourceView : Type 0 where
  pub state : SourceState
  -- the bytes that its source of bytes has left, if that is told
  pub left : Option (List ℕ)
  -- how often its source of bytes has failed
  pub faults : ℕ
  -- which source of bytes it is: two with one number here read from one
  pub loan : ℕ

-- what reading on has left of the count of failures of the source of bytes, by whether that failed last. It is the source that it was. An exact count is
-- raised by failures alone (see `Bears`)
pub record HasCounted (exact : Bool) (failed : Type 0) (old new : SourceView) : Type 0 where
  pub bears : Bears exact failed old.faults new.faults
  pub same_source : new.loan ≡ old.loan

-- no question failed
pub record HasFollowed (exact : Bool) (old new : SourceView) : Type 0 where
  pub follows : SourceFollows old.state new.state old.left new.left
  pub counts : HasCounted exact ⊥ old new

-- the last question failed: by the source of bytes, which has counted it, or by a line
pub data HasQuestionFailed (exact : Bool) (old new : SourceView) : Type 0 where
  by_source : HasBroken old.state new.state old.left new.left → HasCounted exact (Unit {0}) old new → HasQuestionFailed exact old new
  by_line : HasStopped old.state new.state old.left new.left → HasCounted exact ⊥ old new → HasQuestionFailed exact old new

-- what questions have read, by what the last one brought. Of an answer it says only that none failed: which one it was, and that none comes after a line that
-- stops the reading, `CourseAnswers` says
abbrev pub HasSaid : Bool → SourceView → SourceView → Next → Type 0
HasSaid exact old new (next.Answer given) = HasFollowed exact old new
HasSaid exact old new next.Silent = HasFollowed exact old new × (has_course_ended new.state.course ≡ true)
HasSaid exact old new next.Failed = (has_course_ended old.state.course ≡ false) × (is_reading old.state.course ≡ true → HasQuestionFailed exact old new)
